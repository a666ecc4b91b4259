-- Late nodes stay late in each row of the table, while the request is not served.
use Rattle.std.proofs.Common.{◌≡◌, ◌≢◌, ℕ, suc, List, [], ◌∷◌, map, slice_get, Some, refl, sym, ap, ◌∙◌, subst, inl, inr}
use Rattle.std.proofs.lemmas.Bool.{cases_eq}
use Rattle.std.proofs.lemmas.Option.{same_Some, none-some}
use Rattle.ivy_model.specs.declared.Config.{Config}
use Rattle.ivy_wire.specs.stated.Data.{Parcel}
use Rattle.ivy_pagetable.specs.declared.Entry.{Entry}
use Rattle.ivy_pagetable.specs.stated.Entries.{put_offs, with_put_off}
use Rattle.ivy_dynamic.specs.stated.Dynamic.{Hints, hint_of, dynamic_ops}
use Rattle.proof_table.specs.stated.Letters.{Letter, Net, Loose, letter_of, IsAt}
use Rattle.proof_table.specs.transitions.Letters.{goes_on, installs}
use Rattle.proof_table.specs.transitions.TableSteps.{Takes, PutsOff, taken}
use Rattle.proof_table.proofs.transitions.Needs.{page_of}
use Rattle.proof_table.proofs.transitions.Places.{written-other, served, freed}
use Rattle.proof_table.proofs.routing.Managers.{IsTold, hop_else}
use Rattle.proof_table.proofs.routing.Remaining.{StaysPutOff}
use Rattle.proof_answers.specs.late.Late.{IsOut, AreOrdered}
use Rattle.proof_answers.proofs.late.LateSteps.{IsInOrder}
use Rattle.proof_answers.proofs.late.LateNets.{IsFirst, IsNoPlace, request_page, served_order, freed_order, installed_order, same_order}
use Rattle.proof_answers.proofs.late.LateMoves.{come_in, taken_order, placed, put_order}
use Rattle.proof_answers.proofs.late.LateKept.{IsLateKept, unchanged_kept}

-- at the page of the row, and at another one
pub either_page : {nodes : ℕ} {m m' : ℕ → Hints} {n n' : Net} (q : ℕ)
    → ((o : ℕ) → IsOut n q o → IsOut n' q o → IsLateKept nodes m m' n n' q o)
    → ((p o : ℕ) → p ≢ q → IsOut n p o → IsLateKept nodes m m' n n' p o)
    → (p o : ℕ) → IsOut n p o → IsOut n' p o → IsLateKept nodes m m' n n' p o
either_page {nodes} {m} {m'} {n} {n'} q here apart p o out still = elim (cases_eq p q) [
  | inl same ↦
      subst (λ v. IsLateKept nodes m m' n n' v o) (sym same)
      (here o (subst (λ v. IsOut n v o) same out) (subst (λ v. IsOut n' v o) same still))
  | inr ne ↦ apart p o ne out
]

-- the requests for another page than that of the row
module _ (nodes : ℕ) (m m' : ℕ → Hints) (n : Net) (p o x q : ℕ) (ne : p ≢ q)
    (told : IsTold dynamic_ops m m' x q) (ordered : AreOrdered nodes m n p) (out : IsOut n p o)
  where
    others : (y : ℕ) → y ≢ x → hint_of (m' y) p ≡ hint_of (m y) p
    others y apart = hop_else dynamic_ops m m' x q told y p (inl apart)

    same_hint : hint_of (m' x) p ≡ hint_of (m x) p
    same_hint = hop_else dynamic_ops m m' x q told x p (inr ne)

    module _ (e z : Entry) (is : n.entry x q ≡ e) where
      module _ (rest : List Letter) (parcels : List Parcel) (put : StaysPutOff e z)
          (lo : (k : ℕ) (l : Letter) → slice_get n.loose (suc k) ≡ Some l
          → slice_get rest k ≡ Some l)
          (about : (l : Letter) → IsAt n (Loose 0) l → page_of l.message.content ≡ q) where
        else_order : IsInOrder m m' n (goes_on n x q z rest parcels) p o x served IsFirst ⊥
        else_order =
            served_order n x q e z rest parcels is put lo m m' p o ⊥
            (λ i l at asks. absurd (ne (sym (request_page p i l asks) ∙ about l at))) others

        pub served_else : IsLateKept nodes m m' n (goes_on n x q z rest parcels) p o
        served_else =
            unchanged_kept nodes m m' n (goes_on n x q z rest parcels) p o x served IsFirst ⊥
            ordered out
            else_order (λ f. f) (written-other n.entry x q z x p (inr ne)) same_hint

        pub served_installed : (bytes : List ℕ)
            → IsLateKept nodes m m' n (installs (goes_on n x q z rest parcels) x q bytes) p o
        served_installed bytes =
            unchanged_kept nodes m m' n (installs (goes_on n x q z rest parcels) x q bytes) p o x
            served IsFirst ⊥ ordered out
            (installed_order m m' n (goes_on n x q z rest parcels) p o x served IsFirst ⊥ x q bytes
            else_order) (λ f. f) (written-other n.entry x q z x p (inr ne)) same_hint

      module _ (old : Letter) (loose : n.loose ≡ old ∷ [])
          (about : page_of old.message.content ≡ q) where
        abbrev freed_net : Net
        freed_net = goes_on n x q z (map (letter_of x q) (put_offs e)) []

        else_freed : IsInOrder m m' n freed_net p o x (freed x q) IsNoPlace ⊥
        else_freed =
            freed_order n x q e z old is loose m m' p o
            (λ i asks. absurd (ne (sym (request_page p i old asks) ∙ about)))
            (λ same b k bt asks. absurd (ne (sym same))) others

        pub freed_else : IsLateKept nodes m m' n freed_net p o
        freed_else =
            unchanged_kept nodes m m' n freed_net p o x (freed x q) IsNoPlace ⊥ ordered out else_freed
            (λ f. f) (written-other n.entry x q z x p (inr ne)) same_hint

        pub freed_installed : (bytes : List ℕ)
            → IsLateKept nodes m m' n (installs freed_net x q bytes) p o
        freed_installed bytes =
            unchanged_kept nodes m m' n (installs freed_net x q bytes) p o x (freed x q) IsNoPlace ⊥
            ordered out
            (installed_order m m' n freed_net p o x (freed x q) IsNoPlace ⊥ x q bytes else_freed)
            (λ f. f) (written-other n.entry x q z x p (inr ne)) same_hint

-- the first loose letter, where it is about the page
pub first_about : (n : Net) (old : Letter) (rest : List Letter) (q : ℕ) → n.loose ≡ old ∷ rest
    → page_of old.message.content ≡ q → (l : Letter) → IsAt n (Loose 0) l
    → page_of l.message.content ≡ q
first_about n old rest q loose about l at =
    ap (λ (v : Letter). page_of v.message.content)
    (sym (same_Some old l (ap (λ v. slice_get v 0) (sym loose) ∙ at))) ∙ about

-- where none is loose
pub none_about : (n : Net) (q : ℕ) → n.loose ≡ [] → (l : Letter) → IsAt n (Loose 0) l
    → page_of l.message.content ≡ q
none_about n q none l at = absurd (none-some l (ap (λ v. slice_get v 0) (sym none) ∙ at))

pub next_loose : (n : Net) (old : Letter) (rest : List Letter) → n.loose ≡ old ∷ rest → (k : ℕ)
    (l : Letter) → slice_get n.loose (suc k) ≡ Some l → slice_get rest k ≡ Some l
next_loose n old rest loose k l h = ap (λ v. slice_get v (suc k)) (sym loose) ∙ h

pub none_loose : (n : Net) → n.loose ≡ [] → (k : ℕ) (l : Letter)
    → slice_get n.loose (suc k) ≡ Some l → slice_get [] k ≡ Some l
none_loose n none k l h =
    absurd (none-some l (ap (λ v. slice_get v (suc k)) (sym none) ∙ h))

-- bytes change, or a letter is taken
pub carried_kept : (nodes : ℕ) (m : ℕ → Hints) (n : Net) (x q : ℕ) (bytes : List ℕ) (p o : ℕ)
    → AreOrdered nodes m n p → IsOut n p o → IsLateKept nodes m m n (installs n x q bytes) p o
carried_kept nodes m n x q bytes p o ordered out =
    unchanged_kept nodes m m n (installs n x q bytes) p o x (λ a. a) IsNoPlace ⊥ ordered out
    (installed_order m m n n p o x (λ a. a) IsNoPlace ⊥ x q bytes (same_order m n p o x)) (λ f. f)
    refl refl

pub taken_kept : (nodes : ℕ) (m : ℕ → Hints) (n : Net) (r : Takes n) (p o : ℕ)
    → AreOrdered nodes m n p → IsOut n p o → IsLateKept nodes m m n (taken n r.source r.dest r.message) p o
taken_kept nodes m n r p o ordered out =
    unchanged_kept nodes m m n (taken n r.source r.dest r.message) p o r.dest (come_in n r m p o)
    IsNoPlace ⊥ ordered out (taken_order n r m p o) (λ f. f) refl refl

-- a message is put off at another page
pub put_else : (c : Config) (m : ℕ → Hints) (n : Net) (r : PutsOff c n) (p o : ℕ) → p ≢ r.page
    → AreOrdered c.nodes m n p → IsOut n p o
    → IsLateKept c.nodes m m n
    (goes_on n r.node r.page (with_put_off r.before r.later) r.rest []) p o
put_else c m n r p o ne ordered out =
    unchanged_kept c.nodes m m n
    (goes_on n r.node r.page (with_put_off r.before r.later) r.rest []) p o r.node
    (placed c n r m p o) IsNoPlace ⊥ ordered out (put_order c n r m p o) (λ f. f)
    (written-other n.entry r.node r.page (with_put_off r.before r.later) r.node p (inr ne)) refl
