-- The sites of nodes, each with the program that its owner's calls come to in the end.
use Rattle.std.proofs.Common.{◌≡◌, ℕ, zero, suc, List, [], ◌∷◌, length, map, set, slice_get, Some, refl, sym, ap, ◌∙◌, arith}
use Rattle.std.proofs.lemmas.Option.{none-some, same_Some}
use Rattle.ivy_program.specs.stated.Programs.{Program}
use Rattle.ivy_site.specs.SiteView.{SiteView}
use Rattle.ivy_world.specs.WorldSites.{programs_of}
use Rattle.ivy_embedded.specs.Nodes.{Embedded}
use Rattle.proof_embedded.specs.Driven.{program_in}
use Rattle.proof_embedded.proofs.Emptied.{with_strings}
use Rattle.proof_embedded.proofs.Lifted.{as_run}

abbrev pub along : List Program → List Embedded → List SiteView
along [] es = []
along (p ∷ ps) [] = []
along (p ∷ ps) (e ∷ es) = as_run p [] e.site ∷ along ps es

pub along_there : (ps : List Program) (es : List Embedded) (i : ℕ) (p : Program) (e : Embedded)
    → slice_get ps i ≡ Some p → slice_get es i ≡ Some e
    → slice_get (along ps es) i ≡ Some (as_run p [] e.site)
along_there [] es i p e has at = absurd (none-some p has)
along_there (q ∷ ps) [] i p e has at = absurd (none-some e at)
along_there (q ∷ ps) (f ∷ es) zero p e has at =
    ap (λ r. Some (as_run r [] f.site)) (same_Some q p has)
    ∙ ap (λ (x : Embedded). Some (as_run p [] x.site)) (same_Some f e at)
along_there (q ∷ ps) (f ∷ es) (suc i) p e has at = along_there ps es i p e has at

-- one of the nodes changes
pub along_set : (ps : List Program) (es : List Embedded) (i : ℕ) (p : Program) (t : Embedded)
    → slice_get ps i ≡ Some p → along ps (set es i t) ≡ set (along ps es) i (as_run p [] t.site)
along_set [] es i p t has = absurd (none-some p has)
along_set (q ∷ ps) [] i p t has = refl
along_set (q ∷ ps) (f ∷ es) zero p t has =
    ap (λ r. as_run r [] t.site ∷ along ps es) (same_Some q p has)
along_set (q ∷ ps) (f ∷ es) (suc i) p t has =
    ap (λ l. as_run q [] f.site ∷ l) (along_set ps es i p t has)

-- each is that of a node and a program
pub record IsAlong (ps : List Program) (es : List Embedded) (i : ℕ) (x : SiteView) : Type 0 where
  pub program : Program
  pub has : slice_get ps i ≡ Some program
  pub node : Embedded
  pub at : slice_get es i ≡ Some node
  pub is : x ≡ as_run program [] node.site

pub along_from : (ps : List Program) (es : List Embedded) (i : ℕ) (x : SiteView)
    → slice_get (along ps es) i ≡ Some x → IsAlong ps es i x
along_from [] es i x there = absurd (none-some x there)
along_from (p ∷ ps) [] i x there = absurd (none-some x there)
along_from (p ∷ ps) (e ∷ es) zero x there = record {
  program = p;
  has = refl;
  node = e;
  at = refl;
  is = sym (same_Some (as_run p [] e.site) x there);
}
along_from (p ∷ ps) (e ∷ es) (suc i) x there =
    let rest = along_from ps es i x there in
    record { program = rest.program; has = rest.has; node = rest.node; at = rest.at; is = rest.is }

pub along_length : (ps : List Program) (es : List Embedded) → length ps ≡ length es
    → length (along ps es) ≡ length es
along_length [] [] same = refl
along_length [] (e ∷ es) same = absurd (omega (arith, same))
along_length (p ∷ ps) [] same = refl
along_length (p ∷ ps) (e ∷ es) same = ap suc (along_length ps es (omega (arith, same)))

pub along_programs : (ps : List Program) (es : List Embedded) → length ps ≡ length es
    → programs_of (along ps es) ≡ ps
along_programs [] es same = refl
along_programs (p ∷ ps) [] same = absurd (omega (arith, same))
along_programs (p ∷ ps) (e ∷ es) same =
    ap (λ l. p ∷ l) (along_programs ps es (omega (arith, same)))

-- with their own programs they are what they are
pub along_own : (es : List Embedded)
    → along (map program_in es) es ≡ map (λ (e : Embedded). with_strings [] e.site) es
along_own [] = refl
along_own (e ∷ es) = ap (λ l. with_strings [] e.site ∷ l) (along_own es)
