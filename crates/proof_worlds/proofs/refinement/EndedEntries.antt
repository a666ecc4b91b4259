-- The state after an event that writes the entry of a page, and maybe its bytes.
use Rattle.std.proofs.Common.{◌<◌, inl, inr, ℕ, List, [], length, Option, refl, sym, subst, arith}
use Rattle.ivy_wire.specs.stated.Data.{Parcel}
use Rattle.ivy_pagetable.specs.declared.Entry.{Entry}
use Rattle.ivy_pagetable.specs.declared.Out.{Out}
use Rattle.ivy_pagetable.specs.declared.Word.{Word}
use Rattle.ivy_pagetable.specs.stated.Tables.{page_at, with_entry, with_page}
use Rattle.ivy_pagetable.specs.stated.Manager.{Ops}
use Rattle.ivy_coherence.specs.stated.Coherent.{Coherent}
use Rattle.ivy_coherence.specs.stated.Sound.{IsSound}
use Rattle.ivy_coherence.proofs.keeping.Changing.{entry_with, page_with}
use Rattle.proof_table.specs.stated.Letters.{Net}
use Rattle.proof_worlds.proofs.refinement.LiftedNets.{Stands}
use Rattle.proof_worlds.proofs.refinement.LiftedEvents.{Ended}

module _ {S : Type 0} {ops : Ops S} {P : (ℕ → S) → Net → (ℕ → List ℕ) → Type 0} (m : ℕ → S)
    (n : Net) (k : Coherent S) (sound : IsSound ops k) (p : ℕ) (inside : p < k.config.pages) where
  pub entry_ended : (z : Entry) (s : S) (lock : Option ℕ) (fetched : List ℕ) (more : List Word)
      (answer : Option Out) (others : List Out) (broken : ℕ) (ps : List Parcel) (flat : ℕ → List ℕ)
      → Stands P m n k.me p flat z (page_at k.table p) s broken ps []
      → Ended P m n k.me p k
      (record {
        config = k.config;
        me = k.me;
        sends_on = k.sends_on;
        table = with_entry k.table p z;
        manager = s;
        locked = lock;
        fetched = fetched;
        more = more;
        done = answer;
        done_more = others;
        breaches = broken;
      }) ps flat
  entry_ended z s lock fetched more answer others broken ps flat h =
      let within : p < length k.table.entries =
      (let e = sound.entries in omega (arith, inside, e)) in
      record {
        stands =
            subst (λ e. Stands P m n k.me p flat e (page_at k.table p) s broken ps [])
            (elim (entry_with k.table p z p within) [ inl y ↦ sym y.1 | inr y ↦ absurd (y.0 refl) ])
            h;
        entries =
            λ q ne. elim (entry_with k.table p z q within) [
              | inl y ↦ absurd (ne y.0)
              | inr y ↦
                  y.1
            ];
        pages = λ q ne. refl;
      }

  pub page_ended : (z : Entry) (bytes : List ℕ) (s : S) (lock : Option ℕ) (fetched : List ℕ)
      (more : List Word)
      (answer : Option Out) (others : List Out) (broken : ℕ) (ps : List Parcel) (flat : ℕ → List ℕ)
      → Stands P m n k.me p flat z bytes s broken ps []
      → Ended P m n k.me p k
      (record {
        config = k.config;
        me = k.me;
        sends_on = k.sends_on;
        table = with_page (with_entry k.table p z) p bytes;
        manager = s;
        locked = lock;
        fetched = fetched;
        more = more;
        done = answer;
        done_more = others;
        breaches = broken;
      }) ps flat
  page_ended z bytes s lock fetched more answer others broken ps flat h =
      let within : p < length k.table.entries =
      (let e = sound.entries in omega (arith, inside, e)) in
      let long : p < length k.table.pages = (let e = sound.pages in omega (arith, inside, e)) in
      record {
        stands =
            subst (λ e. Stands P m n k.me p flat e (page_at (with_page k.table p bytes) p) s broken
            ps []) (elim (entry_with k.table p z p within) [
              | inl y ↦ sym y.1
              | inr y ↦
                  absurd (y.0 refl)
            ])
            (subst (λ d. Stands P m n k.me p flat z d s broken ps [])
            (elim (page_with k.table p bytes p long) [
              | inl y ↦ sym y.1
              | inr y ↦
                  absurd (y.0 refl)
            ]) h);
        entries =
            λ q ne. elim (entry_with k.table p z q within) [
              | inl y ↦ absurd (ne y.0)
              | inr y ↦
                  y.1
            ];
        pages = λ q ne.
            elim (page_with k.table p bytes q long) [ inl y ↦ absurd (ne y.0) | inr y ↦ y.1 ];
      }
