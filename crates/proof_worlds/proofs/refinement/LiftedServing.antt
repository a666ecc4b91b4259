-- Letters that are served at an idle entry, one row each.
use Rattle.std.proofs.Common.{◌≡◌, ◌≢◌, ◌<◌, inl, inr, ℕ, Bool, true, false, List, [], ◌∷◌, ◌++◌, map, refl, ap, ◌∙◌, subst, if◌then◌else◌}
use Rattle.std.specs.Prelude.{All}
use Rattle.std.specs.FinSet as set
use Rattle.ivy_model.specs.declared.Config.{Config}
use Rattle.ivy_wire.specs.declared.Content.TheVariants as content
use Rattle.ivy_wire.specs.stated.Data.{Content}
use Rattle.ivy_wire.specs.stated.Posts.{parcel_to}
use Rattle.ivy_pagetable.specs.declared.Entry.TheVariants as entry
use Rattle.ivy_pagetable.specs.declared.PutOff.{PutOff}
use Rattle.ivy_pagetable.specs.declared.Request.{Request}
use Rattle.ivy_pagetable.specs.declared.Request.TheVariants as request
use Rattle.ivy_pagetable.specs.stated.NodeSets.{bits_of}
use Rattle.ivy_pagetable.specs.stated.Entries.{is_owner, without, sharing}
use Rattle.ivy_pagetable.specs.stated.Manager.{Ops}
use Rattle.ivy_pagetable.specs.Manager.{Laws}
use Rattle.ivy_coherence.specs.stated.Serving.{Serving, served, served_by_owner, served_by_other, all_served}
use Rattle.ivy_coherence.specs.stated.IdleSound.{CanBeServed}
use Rattle.ivy_coherence.proofs.keeping.IdleServing.{IsServing, IsPlace, all_one, all_head, all_tail, all_served-keeps}
use Rattle.proof_table.specs.stated.Letters.{Letter, Net, content_of, letter_of}
use Rattle.proof_table.specs.transitions.TableSteps.{letter, Row, Served, IsPreservedBy}
use Rattle.proof_worlds.proofs.refinement.LiftedNets.{reached, Stands, written_here, told-again}
use Rattle.proof_worlds.proofs.refinement.LiftedRows.{goes, dropped_at, hop_here}

module _ {S : Type 0} {sends : Bool} {ops : Ops S} {P : (ℕ → S) → Net → (ℕ → List ℕ) → Type 0}
    (laws : Laws ops) (c : Config) (kept : IsPreservedBy sends ops c P) (m : ℕ → S) (n : Net) (x p : ℕ) (here : x < c.nodes)
    (inside : p < c.pages) (f : ℕ → List ℕ) (b : List ℕ) (first : S)
    (at : IsPlace ops c x p b first) where
  -- this was served, and these letters are left
  abbrev Left : Serving S → List Letter → Type 0
  Left v rest = Stands P m n x p f (entry.Idle v.idle) b v.manager v.breaches v.posted rest

  -- the first of them is served
  abbrev asked : (v : Serving S) (ask : ℕ → Content) (from o call : ℕ) (rest : List Letter) → o ≢ x
      → Served c
      (reached n x p (entry.Idle v.idle) b v.breaches v.posted
      (letter from x o call (ask p) ∷ rest)) entry.Idle ask
  asked v ask from o call rest foreign = record {
    node = x;
    page = p;
    from = from;
    origin = o;
    call = call;
    state = v.idle;
    rest = rest;
    here = here;
    inside = inside;
    loose = refl;
    foreign = foreign;
    is = written_here n.entry x p (entry.Idle v.idle);
  }

  by_owner : (v : Serving S) (from o call : ℕ) (k : Request) (rest : List Letter)
      → IsServing ops c x p first v → v.idle.owner ≡ true → o ≢ x
      → Left v (letter from x o call (content_of k p) ∷ rest)
      → Left (served_by_owner ops x p b v o call k) rest
  by_owner v from o call request.Read rest s own foreign h =
      subst (λ d. Stands P m n x p f (entry.Idle (sharing (set.insert v.idle.copies o))) b v.manager
      v.breaches (v.posted ++ parcel_to x o o call (content.ReadRep p d) ∷ []) rest)
      (written_here n.page x p b)
      (goes kept h tt v.manager (λ i. refl) _ _ rest
      (Row.shares (asked v content.ReadReq from o call rest foreign) own s.idle.copies.below))
  by_owner v from o call request.Write rest s own foreign h =
      subst (λ d. Stands P m n x p f (entry.Idle without) b (ops.on_given v.manager p o) v.breaches
      (v.posted ++ parcel_to x o o call
      (content.WriteRep p (bits_of (set.remove v.idle.copies o)) d) ∷ []) rest)
      (written_here n.page x p b)
      (goes kept h here _ (told-again m x v.manager (λ z. ops.on_given z p o)) _ _ rest
      (Row.gives (asked v content.WriteReq from o call rest foreign) own s.idle.copies.below))
  by_owner v from o call request.Invalidate rest s own foreign h =
      dropped_at kept h here refl
      (inr (inl (ap is_owner (written_here n.entry x p (entry.Idle v.idle)) ∙ own)))

  by_other : (v : Serving S) (from o call : ℕ) (k : Request) (rest : List Letter)
      → IsServing ops c x p first v → v.idle.owner ≡ false → o ≢ x
      → (k ≡ request.Invalidate → from ≡ o)
      → Left v (letter from x o call (content_of k p) ∷ rest)
      → Left (served_by_other ops x p b v o call k) rest
  by_other v from o call request.Read rest s own foreign sender h =
      goes kept h (here, hop_here ops m x v.manager p) _
      (told-again m x v.manager (λ z. ops.on_forward z p false o)) _ _ rest
      (Row.sends_on_read (asked v content.ReadReq from o call rest foreign) _ own
      (record { below = s.hop; away = s.away own }))
  by_other v from o call request.Write rest s own foreign sender h =
      goes kept h (here, hop_here ops m x v.manager p) _
      (told-again m x v.manager (λ z. ops.on_forward z p true o)) _ _ rest
      (Row.sends_on_write (asked v content.WriteReq from o call rest foreign) _ own
      (record { below = s.hop; away = s.away own }))
  by_other v from o call request.Invalidate rest s own foreign sender h =
      goes kept h here _ (told-again m x v.manager (λ z. ops.on_invalidated z p o)) _ _ rest
      (Row.ends_copy (asked v content.Inval from o call rest foreign) (sender refl) own)

  -- one letter; an order is of the node that is to write
  pub served_at : (v : Serving S) (from : ℕ) (q : PutOff) (rest : List Letter)
      → IsServing ops c x p first v → CanBeServed c x q
      → (q.kind ≡ request.Invalidate → from ≡ q.origin)
      → Left v (letter from x q.origin q.call (content_of q.kind p) ∷ rest)
      → Left (served ops x p b v q) rest
  served_at v from q rest s can sender h = either v.idle.owner refl
    where
      either : (own : Bool) → v.idle.owner ≡ own
          → Left (if own then served_by_owner ops x p b v q.origin q.call q.kind
          else served_by_other ops x p b v q.origin q.call q.kind) rest
      either true own = by_owner v from q.origin q.call q.kind rest s own can.foreign h
      either false own = by_other v from q.origin q.call q.kind rest s own can.foreign sender h

  pub all_served-at : (v : Serving S) (qs : List PutOff) → IsServing ops c x p first v
      → All (CanBeServed c x) qs → Left v (map (letter_of x p) qs)
      → Left (all_served ops x p b v qs) []
  all_served-at v [] s can h = h
  all_served-at v (q ∷ qs) s can h =
      let one : CanBeServed c x q = all_head (CanBeServed c x) q qs can in
      all_served-at (served ops x p b v q) qs
      (all_served-keeps laws c x p b first at v (q ∷ []) s (all_one (CanBeServed c x) q one))
      (all_tail (CanBeServed c x) q qs can)
      (served_at v q.origin q (map (letter_of x p) qs) s one (λ k. refl) h)
