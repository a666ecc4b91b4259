-- A row within an event, told from what stood before the event.
use Rattle.std.proofs.Common.{◌≡◌, ◌<◌, ℕ, Bool, true, false, List, [], ◌∷◌, ◌++◌, ap, refl, sym, subst, if◌then◌else◌}
use Rattle.std.specs.Prelude.{All}
use Rattle.std.proofs.lemmas.List.Elements.{All-head, All-tail}
use Rattle.ivy_model.specs.declared.Config.{Config}
use Rattle.ivy_wire.specs.stated.Data.{Parcel}
use Rattle.ivy_pagetable.specs.declared.Entry.{Entry}
use Rattle.ivy_pagetable.specs.declared.Entry.TheVariants as entry
use Rattle.ivy_pagetable.specs.declared.Word.{Word}
use Rattle.ivy_pagetable.specs.stated.States.{IdleState}
use Rattle.ivy_pagetable.specs.stated.Words.{IsWord, carried_out}
use Rattle.ivy_pagetable.specs.stated.Manager.{Ops}
use Rattle.ivy_coherence.specs.stated.Several.{all_carried}
use Rattle.ivy_coherence.specs.stated.Serving.{counted}
use Rattle.ivy_pagetable.specs.stated.Accesses.{suffices}
use Rattle.proof_table.specs.stated.Letters.{Letter, Net}
use Rattle.proof_table.specs.transitions.Letters.{goes_on, installs}
use Rattle.proof_table.specs.transitions.TableSteps.{Notice, Row, Claim, Misfits, IsPreservedBy, IsNamedBy, noticed, with_manager, with_flat_page}
use Rattle.proof_table.proofs.transitions.Alike.{alike_holds}
use Rattle.proof_worlds.proofs.refinement.LiftedEvents.{CarriesAll}
use Rattle.proof_worlds.proofs.refinement.LiftedNets.{reached, Stands, written_here, written-node, told_here, extended-on, extended-none, goes-alike, comes_alike, installs-alike, drops-alike}

module _ {S : Type 0} {sends : Bool} {ops : Ops S} {P : Claim S} {c : Config}
    (kept : IsPreservedBy sends ops c P)
    {m : ℕ → S} {n : Net} {x p : ℕ} {f : ℕ → List ℕ} {e : Entry} {b : List ℕ} {s : S} {broken : ℕ}
    {ps : List Parcel} {before : List Letter}
    (h : Stands P m n x p f e b s broken ps before) where
  -- the net now
  abbrev Now : Net
  Now = reached n x p e b broken ps before

  module _ {notice : Notice} (of : IsNamedBy ops c (with_manager m x s) notice) (after : S)
      (managers : (i : ℕ) → with_manager m x after i ≡ noticed ops (with_manager m x s) notice i) where
    -- the node's entry is written, these letters are left, and parcels are posted
    pub goes : (z : Entry) (qs : List Parcel) (rest : List Letter)
        → Row sends c Now f notice (goes_on Now x p z rest qs) f
        → Stands P m n x p f z b after broken (ps ++ qs) rest
    goes z qs rest row = record {
      holds = alike_holds _ _ _ _
          (goes-alike m _ n x p after managers e z b broken ps qs (ps ++ qs) before rest
          (extended-on n.posted ps qs)) P f
          (kept.by row of h.holds);
    }

    pub goes_quietly : (z : Entry) (rest : List Letter)
        → Row sends c Now f notice (goes_on Now x p z rest []) f
        → Stands P m n x p f z b after broken ps rest
    goes_quietly z rest row = record {
      holds = alike_holds _ _ _ _
          (goes-alike m _ n x p after managers e z b broken ps [] ps before rest
          (extended-none n.posted ps)) P f
          (kept.by row of h.holds);
    }

    -- the node's bytes of the page are written too
    pub comes : (z : Entry) (qs : List Parcel) (rest : List Letter) (bytes : List ℕ)
        → Row sends c Now f notice (installs (goes_on Now x p z rest qs) x p bytes) f
        → Stands P m n x p f z bytes after broken (ps ++ qs) rest
    comes z qs rest bytes row = record {
      holds = alike_holds _ _ _ _
          (comes_alike m _ n x p after managers e z b bytes broken ps qs (ps ++ qs) before rest
          (extended-on n.posted ps qs)) P f
          (kept.by row of h.holds);
    }

    pub comes_quietly : (z : Entry) (rest : List Letter) (bytes : List ℕ)
        → Row sends c Now f notice (installs (goes_on Now x p z rest []) x p bytes) f
        → Stands P m n x p f z bytes after broken ps rest
    comes_quietly z rest bytes row = record {
      holds = alike_holds _ _ _ _
          (comes_alike m _ n x p after managers e z b bytes broken ps [] ps before rest
          (extended-none n.posted ps)) P f
          (kept.by row of h.holds);
    }

-- a word is carried out
pub carried_at : {S : Type 0} {sends : Bool} {ops : Ops S} {P : Claim S} {c : Config}
    → IsPreservedBy sends ops c P
    → {m : ℕ → S} {n : Net} {x p : ℕ} {f : ℕ → List ℕ} {i : IdleState} {b : List ℕ} {s : S}
    {broken : ℕ} {ps : List Parcel} {rest : List Letter}
    → Stands P m n x p f (entry.Idle i) b s broken ps rest → x < c.nodes → p < c.pages → (w : Word)
    → IsWord c.page_size w → suffices i.access w ≡ true
    → Stands P m n x p (with_flat_page f p (carried_out w (f p)).bytes) (entry.Idle i)
    (carried_out w b).bytes s broken ps rest
carried_at {P = P} kept {m} {n} {x} {p} {f} {i} {b} {s} {broken} {ps} {rest} h here inside w word
    enough = record {
      holds = alike_holds _ _ _ _
          (installs-alike m (with_manager m x s) n x p s (λ j. refl) (entry.Idle i) b (carried_out w b).bytes
          broken ps rest) P _
          (subst (λ d. P (with_manager m x s)
          (installs (reached n x p (entry.Idle i) b broken ps rest) x p (carried_out w d).bytes)
          (with_flat_page f p (carried_out w (f p)).bytes)) (written_here n.page x p b)
          (kept.by (Row.carries (record {
            node = x;
            page = p;
            word = w;
            state = i;
            here = here;
            inside = inside;
            is_word = word;
            is = written_here n.entry x p (entry.Idle i);
            enough = enough;
          })) tt h.holds));
    }

-- a word lies in its page, and this access suffices for it
abbrev pub IsCarried : Config → IdleState → Word → Type 0
IsCarried c i w = IsWord c.page_size w × (suffices i.access w ≡ true)

-- an owner may carry out any word
pub owner_suffices : (writes : Bool) → (if writes then true else true) ≡ true
owner_suffices true = refl
owner_suffices false = refl

-- words are carried out one after another
pub carried_all_at : {S : Type 0} {sends : Bool} {ops : Ops S} {P : Claim S} {c : Config}
    → IsPreservedBy sends ops c P
    → {m : ℕ → S} {n : Net} {x p : ℕ} → x < c.nodes → p < c.pages → (words : List Word)
    → {f : ℕ → List ℕ} {i : IdleState} {b : List ℕ} {s : S}
    {broken : ℕ} {ps : List Parcel} {rest : List Letter}
    → Stands P m n x p f (entry.Idle i) b s broken ps rest → All (IsCarried c i) words
    → (flat : ℕ → List ℕ)
    × Stands P m n x p flat (entry.Idle i) (all_carried words b).bytes s broken ps rest
    × CarriesAll P n.entry c x f p words (all_carried words b).outs flat
carried_all_at kept here inside [] {f} h are = (f, h, refl)
carried_all_at {P = P} {c = c} kept {m} {n} {x} {p} here inside (w ∷ words) {f} {i} {b} {s} {broken}
    {ps} {rest} h are =
    let is : IsCarried c i w = All-head (IsCarried c i) w words are in
    let next = carried_at kept h here inside w is.0 is.1 in
    let all = carried_all_at kept here inside words next (All-tail (IsCarried c i) w words are) in (
      all.0,
      all.1,
      (
        with_flat_page f p (carried_out w (f p)).bytes,
        record {
          managers = with_manager m x s;
          net = reached n x p (entry.Idle i) b broken ps rest;
          state = i;
          holds = h.holds;
          here = here;
          inside = inside;
          is_word = is.0;
          idle = written_here n.entry x p (entry.Idle i);
          elsewhere = written-node n.entry x p (entry.Idle i);
          enough = is.1;
          gives = ap (λ d. (carried_out w d).out) (sym (written_here n.page x p b));
          after = refl;
        },
        all.2,
      ),
    )

-- a letter is dropped
pub dropped_at : {S : Type 0} {sends : Bool} {ops : Ops S} {P : Claim S} {c : Config}
    → IsPreservedBy sends ops c P
    → {m : ℕ → S} {n : Net} {x p : ℕ} {f : ℕ → List ℕ} {e : Entry} {b : List ℕ} {s : S} {broken : ℕ}
    {ps : List Parcel} {l : Letter} {rest : List Letter}
    → Stands P m n x p f e b s broken ps (l ∷ rest) → x < c.nodes → l.dest ≡ x
    → Misfits (reached n x p e b broken ps (l ∷ rest)) x l l.message.content
    → Stands P m n x p f e b s (counted broken) ps rest
dropped_at {P = P} kept {m} {n} {x} {p} {f} {e} {b} {s} {broken} {ps} {l} {rest} h here dest why =
    record {
      holds = alike_holds _ _ _ _
          (drops-alike m (with_manager m x s) n x p s (λ j. refl) e b broken ps (l ∷ rest) rest) P f
          (kept.by
          (Row.drops
          (record {
            node = x;
            old = l;
            rest = rest;
            here = here;
            loose = refl;
            dest = dest;
            misfits = why;
          })) tt h.holds);
    }

-- the next hop of the manager that the node has
pub hop_here : {S : Type 0} (ops : Ops S) (m : ℕ → S) (x : ℕ) (s : S) (p : ℕ)
    → ops.next_hop s p ≡ ops.next_hop (with_manager m x s x) p
hop_here ops m x s p = ap (λ z. ops.next_hop z p) (sym (told_here m x s))
