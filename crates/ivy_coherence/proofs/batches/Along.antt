-- Words that wait along with that of an entry.
use Rattle.std.proofs.Common.{◌≡◌, ◌≢◌, ◌⊎◌, ℕ, inl, inr, true, false, List, [], ◌∷◌, length, Option, Some, None, refl, sym, ap, ◌∙◌, subst}
use Rattle.std.specs.Prelude.{All}
use Rattle.std.proofs.lemmas.List.Elements.{All-nil, All-head, All-tail, All-weaker}
use Rattle.ivy_model.specs.declared.Config.{Config}
use Rattle.ivy_pagetable.specs.declared.Entry.{Entry}
use Rattle.ivy_pagetable.specs.declared.Entry.TheVariants as entry
use Rattle.ivy_pagetable.specs.declared.PutOff.{PutOff}
use Rattle.ivy_pagetable.specs.declared.Word.{Word}
use Rattle.ivy_pagetable.specs.stated.States.{IdleState}
use Rattle.ivy_pagetable.specs.stated.Entries.{is_locked, with_put_off}
use Rattle.ivy_pagetable.specs.stated.Tables.{entry_at}
use Rattle.ivy_pagetable.specs.stated.Words.{IsWord, carried_out}
use Rattle.ivy_pagetable.specs.stated.Manager.{Ops}
use Rattle.ivy_pagetable.proofs.Words.{length-carried_out}
use Rattle.ivy_coherence.specs.stated.Coherent.{Coherent}
use Rattle.ivy_coherence.specs.stated.Several.{all_carried}
use Rattle.ivy_coherence.specs.stated.Sound.{Waits, WaitAlong, IsSound}

-- none at all
pub none_along : (c : Config) (e : Entry) → WaitAlong c e []
none_along c (entry.Idle s) = refl
none_along c (entry.AwaitRead s) = All-nil (Waits c false)
none_along c (entry.AwaitWrite s) = All-nil (IsWord c.page_size)
none_along c (entry.AwaitAcks s) = All-nil (IsWord c.page_size)

-- a message is put off at the entry
pub put_along : (c : Config) (e : Entry) (q : PutOff) (words : List Word) → WaitAlong c e words
    → WaitAlong c (with_put_off e q) words
put_along c (entry.Idle s) q words h = h
put_along c (entry.AwaitRead s) q words h = h
put_along c (entry.AwaitWrite s) q words h = h
put_along c (entry.AwaitAcks s) q words h = h

-- each lies in the page
pub words_along : (c : Config) (e : Entry) (words : List Word) → WaitAlong c e words
    → All (IsWord c.page_size) words
words_along c (entry.Idle s) words h = subst (All (IsWord c.page_size)) (sym h) (All-nil (IsWord c.page_size))
words_along c (entry.AwaitRead s) words h =
    All-weaker (Waits c false) (IsWord c.page_size) (λ w is. is.0) words h
words_along c (entry.AwaitWrite s) words h = h
words_along c (entry.AwaitAcks s) words h = h

-- and leaves its length
pub length-all_carried : (words : List Word) (bytes : List ℕ) (size : ℕ) → length bytes ≡ size
    → All (IsWord size) words → length (all_carried words bytes).bytes ≡ size
length-all_carried [] bytes size long are = long
length-all_carried (w ∷ ws) bytes size long are =
    length-all_carried ws (carried_out w bytes).bytes size
    (length-carried_out w bytes
    (subst (λ n. IsWord n w) (sym long) (All-head (IsWord size) w ws are)) ∙ long)
    (All-tail (IsWord size) w ws are)

-- what waits along with the word of a page then
pub record AreAlong {S : Type 0} (c : Coherent S) (page : ℕ) (e : Entry) (lock : Option ℕ)
    (more : List Word) : Type 0 where
  pub here : lock ≡ Some page → WaitAlong c.config e more
  pub same : (more ≡ c.more) ⊎ (more ≡ [])
  pub alone : lock ≡ None → more ≡ []

-- none waits from now on
pub freed_along : {S : Type 0} (c : Coherent S) (page : ℕ) (e : Entry) → AreAlong c page e None []
freed_along c page e =
    record { here = λ lock. absurd cc; same = inr refl; alone = λ free. refl }

module _ {S : Type 0} {ops : Ops S} where
  -- the same words as before, at an entry that stays as locked as it was
  pub kept_along : (c : Coherent S) (page : ℕ) (e : Entry) → IsSound ops c
      → (WaitAlong c.config (entry_at c.table page) c.more → WaitAlong c.config e c.more)
      → AreAlong c page e c.locked c.more
  kept_along c page e s same =
      record { here = λ lock. same (s.along page lock); same = inl refl; alone = s.alone }

  -- no word waits at an idle entry
  pub idle_along : (c : Coherent S) (page : ℕ) (i : IdleState) (e : Entry) → IsSound ops c
      → entry_at c.table page ≡ entry.Idle i → AreAlong c page e c.locked c.more
  idle_along c page i e s is = record {
    here = λ lock.
        absurd (let f : true ≡ false = sym (s.locked page lock) ∙ ap is_locked is in cc);
    same = inl refl;
    alone = s.alone;
  }

  -- the word waits alone
  pub locked_along : (c : Coherent S) (page : ℕ) (e : Entry) → IsSound ops c → c.locked ≡ None
      → AreAlong c page e (Some page) c.more
  locked_along c page e s free = record {
    here = λ lock. subst (WaitAlong c.config e) (sym (s.alone free)) (none_along c.config e);
    same = inl refl;
    alone = λ none. absurd cc;
  }

  -- the same words as before, where they wait at another entry, or none waits
  pub apart_along : (c : Coherent S) (page : ℕ) (e : Entry) → IsSound ops c
      → c.locked ≢ Some page → AreAlong c page e c.locked c.more
  apart_along c page e s elsewhere =
      record { here = λ lock. absurd (elsewhere lock); same = inl refl; alone = s.alone }

  -- the words that wait along with one that waits at an entry lie in its page
  pub more_fits : (c : Coherent S) (page : ℕ) → IsSound ops c → c.locked ≡ Some page
      → All (IsWord c.config.page_size) c.more
  more_fits c page s here =
      words_along c.config (entry_at c.table page) c.more (s.along page here)
