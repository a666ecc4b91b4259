-- Steps of a net that hand bytes on as they are.
use Rattle.std.proofs.Common.{◌≡◌, ◌<◌, ◌≤◌, ◌+◌, ℕ, zero, suc, Bool, true, false, List, [], ◌∷◌, length, slice_get, Some, refl, sym, ap, ◌∙◌, subst, inl, inr, arith, if◌then◌else◌, ◌==◌, ◌&&◌}
use Rattle.std.proofs.lemmas.Option.{same_Some, none-some}
use Rattle.ivy_model.specs.declared.Config.{Config}
use Rattle.ivy_wire.specs.declared.Content.TheVariants as content
use Rattle.ivy_wire.specs.stated.Data.{Content, Message}
use Rattle.ivy_pagetable.specs.declared.Entry.{Entry}
use Rattle.ivy_pagetable.specs.declared.Request.{Request}
use Rattle.ivy_pagetable.specs.declared.Request.TheVariants as request
use Rattle.proof_table.specs.stated.Letters.{Letter, Net, Place, Underway, Aside, Loose, content_of, IsAt}
use Rattle.proof_table.specs.transitions.Letters.{goes_on, installs}
use Rattle.proof_table.specs.transitions.TableSteps.{taken, dropped}
use Rattle.proof_table.proofs.transitions.Places.{written_here, written-other, same_or_other, served}
use Rattle.proof_table.proofs.transitions.NetSteps.{IsStep, either_entry}
use Rattle.proof_table.proofs.transitions.Parcels.{rest_told, is_step}
use Rattle.proof_worlds.specs.consistency.Copied.{HasBytes, CarriesCurrent, IsCopied}

-- a page that another memory has too
pub carries_on : (f f' : ℕ → List ℕ) (m : Content)
    → ((q : ℕ) (bytes : List ℕ) → m ≡ content.ReadRep q bytes → f' q ≡ f q)
    → ((q bits : ℕ) (bytes : List ℕ) → m ≡ content.WriteRep q bits bytes → f' q ≡ f q) → CarriesCurrent f m
    → CarriesCurrent f' m
carries_on f f' (content.ReadReq q) read write h = tt
carries_on f f' (content.WriteReq q) read write h = tt
carries_on f f' (content.ReadRep q bytes) read write h = h ∙ sym (read q bytes refl)
carries_on f f' (content.WriteRep q bits bytes) read write h = h ∙ sym (write q bits bytes refl)
carries_on f f' (content.Inval q) read write h = tt
carries_on f f' (content.InvalAck q) read write h = tt
carries_on f f' (content.AllocReq size) read write h = tt
carries_on f f' (content.AllocRep code addr) read write h = tt
carries_on f f' (content.FreeReq addr) read write h = tt
carries_on f f' (content.FreeRep code) read write h = tt

-- a request carries no page
pub request_carries : (f : ℕ → List ℕ) (kind : Request) (p : ℕ) → CarriesCurrent f (content_of kind p)
request_carries f request.Read p = tt
request_carries f request.Write p = tt
request_carries f request.Invalidate p = tt

-- an entry is written: who has bytes there has the flat memory's, and so do the new letters
pub step_copied : (c : Config) (n n' : Net) (x p : ℕ) (e z : Entry) (now : Place → Place)
    (New : Place → Letter → Type 0) → IsStep n n' x p e z now New
    → (f : ℕ → List ℕ) → ((i q : ℕ) → n'.page i q ≡ n.page i q) → (HasBytes z → n.page x p ≡ f p)
    → ((a : Place) (l : Letter) → New a l → CarriesCurrent f l.message.content)
    → IsCopied c n f → IsCopied c n' f
step_copied c n n' x p e z now New step f pages here news h = record {
  had = λ i q has. pages i q
      ∙ either_entry c n n' x p e z now New step (λ a b y. HasBytes y → n.page a b ≡ f b) i q here
      (h.had i q) has;
  carried =
      λ a l at.
      elim (step.letters a l at) [ inl old ↦ h.carried old.0 l old.1 | inr new ↦ news a l new ];
  flat_sized = h.flat_sized;
  sized = λ i q low inside. ap length (pages i q) ∙ h.sized i q low inside;
}

module _ (c : Config) (n : Net) (f : ℕ → List ℕ) (h : IsCopied c n f) where
  -- a node's bytes of a page are written, those of the flat memory
  pub bytes_copied : (x p : ℕ) (bytes : List ℕ) → p < c.pages → bytes ≡ f p
      → IsCopied c (installs n x p bytes) f
  bytes_copied x p bytes inside same = record {
    had = λ i q has. elim (same_or_other i q x p) [
      | inl here ↦ written_here n.page x p bytes i q here.0 here.1 ∙ same ∙ ap f (sym here.1)
      | inr other ↦ written-other n.page x p bytes i q other ∙ h.had i q has
    ];
    carried = letters;
    flat_sized = h.flat_sized;
    sized = λ i q low within. elim (same_or_other i q x p) [
      | inl here ↦
          ap length (written_here n.page x p bytes i q here.0 here.1 ∙ same) ∙ h.flat_sized p inside
      | inr other ↦ ap length (written-other n.page x p bytes i q other) ∙ h.sized i q low within
    ];
  }
    where
      letters : (a : Place) (l : Letter) → IsAt (installs n x p bytes) a l
          → CarriesCurrent f l.message.content
      letters (Underway i j k) l at = h.carried (Underway i j k) l at
      letters (Aside i q k) l at = h.carried (Aside i q k) l at
      letters (Loose k) l at = h.carried (Loose k) l at

  -- a message is put off: letters put off carry no page
  pub aside_copied : (x p : ℕ) (e z : Entry) (old : Letter) (rest : List Letter) → n.entry x p ≡ e
      → n.loose ≡ old ∷ rest → (HasBytes z → HasBytes e) → IsCopied c (goes_on n x p z rest []) f
  aside_copied x p e z old rest is loose has =
      step_copied c n (goes_on n x p z rest []) x p e z served New
      (is_step n x p e z rest [] served New is (record {
        underway = λ i j k. refl;
        elsewhere = λ i q k other. refl;
        aside = λ k q there. inr (q.kind, refl);
        loose = rest_told n x p e z old rest loose;
        posts = λ i j k m there. absurd (none-some m there);
      })) f (λ i q. refl) (λ there. h.had x p (subst HasBytes (sym is) (has there)))
      (λ a l new. subst (CarriesCurrent f) (sym new.1) (request_carries f new.0 p)) h
    where
      New : Place → Letter → Type 0
      New a l = (kind : Request) × (l.message.content ≡ content_of kind p)

  more_counted : (b : Bool) (d k : ℕ) → (if b then d + 1 else d) ≤ k → d ≤ k
  more_counted true d k le = omega (arith, le)
  more_counted false d k le = le

  -- a letter is taken
  pub taken_copied : (s x : ℕ) (m : Message) → slice_get (n.posted s x) (n.delivered s x) ≡ Some m
      → IsCopied c (taken n s x m) f
  taken_copied s x m first =
      record { had = h.had; carried = letters; flat_sized = h.flat_sized; sized = h.sized }
    where
      first_letter : Letter
      first_letter = record { source = s; dest = x; message = m }

      only : (k : ℕ) (l : Letter) → slice_get (first_letter ∷ []) k ≡ Some l
          → CarriesCurrent f l.message.content
      only zero l at =
          subst (λ (y : Letter). CarriesCurrent f y.message.content) (same_Some first_letter l at)
          (h.carried (Underway s x (n.delivered s x)) first_letter (omega arith, first, refl, refl))
      only (suc k) l at = absurd (none-some l at)

      letters : (a : Place) (l : Letter) → IsAt (taken n s x m) a l → CarriesCurrent f l.message.content
      letters (Underway i j k) l at =
          h.carried (Underway i j k) l
          (more_counted (i == s && j == x) (n.delivered i j) k at.0, at.1, at.2, at.3)
      letters (Aside i q k) l at = h.carried (Aside i q k) l at
      letters (Loose k) l at = only k l at

  -- a letter is dropped
  pub dropped_copied : (x : ℕ) (old : Letter) (rest : List Letter) → n.loose ≡ old ∷ rest
      → IsCopied c (dropped n x rest) f
  dropped_copied x old rest loose =
      record { had = h.had; carried = letters; flat_sized = h.flat_sized; sized = h.sized }
    where
      letters : (a : Place) (l : Letter) → IsAt (dropped n x rest) a l → CarriesCurrent f l.message.content
      letters (Underway i j k) l at = h.carried (Underway i j k) l at
      letters (Aside i q k) l at = h.carried (Aside i q k) l at
      letters (Loose k) l at =
          h.carried (Loose (suc k)) l (ap (λ v. slice_get v (suc k)) loose ∙ at)
