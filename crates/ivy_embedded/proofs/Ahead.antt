-- A page that is fetched ahead leaves what is lent of other pages, and the calls that have no reply.
use Rattle.std.proofs.Common.{◌≡◌, ◌≢◌, inl, inr, ℕ, ◌+◌, Bool, true, false, nat_lt, List, [], ◌∷◌, ◌++◌, length, slice_get, Option, Some, None, if◌then◌else◌, refl, sym, ap, ◌∙◌, subst, arith}
use Rattle.std.proofs.lemmas.List.{get_or-set_other, length-append}
use Rattle.std.proofs.lemmas.Option.{same_Some}
use Rattle.ivy_model.specs.declared.Call.{Call}
use Rattle.ivy_model.specs.declared.Config.{Config}
use Rattle.ivy_pagetable.specs.stated.Entries.{nothing}
use Rattle.ivy_pagetable.specs.stated.TableState.{Table}
use Rattle.ivy_pagetable.specs.stated.Tables.{entry_at}
use Rattle.ivy_coherence.specs.Leavings.{access_at}
use Rattle.ivy_coherence.specs.stated.Coherent.{Coherent}
use Rattle.ivy_coherence.specs.stated.PageFaults.{Fetch, fetch}
use Rattle.ivy_coherence.proofs.keeping.EventTable.{FetchRows, fetch-by_rows}
use Rattle.ivy_memory.specs.stated.Asking.{asked_of}
use Rattle.ivy_memory.specs.stated.Memories.{MemoryFetch, in_progress}
use Rattle.ivy_program.specs.OwnCode.{process_ahead}
use Rattle.ivy_program.specs.Programs.{IsCalled, ahead, fetch_after}
use Rattle.ivy_program.specs.stated.InstructionSteps.{Process}
use Rattle.ivy_program.specs.stated.Programs.{HandedFetch, Program, Written, Called, fetches_of}
use Rattle.ivy_program.specs.stated.States.{State}
use Rattle.ivy_program.proofs.running.Handing.{ahead_called}
use Rattle.ivy_moves.specs.stated.Cores.{Outcome}
use Rattle.ivy_host.specs.Handing.{fetching}
use Rattle.ivy_host.specs.stated.Fetches.{due_of, if_reached}
use Rattle.ivy_host.specs.stated.Hosts.{Host, asks_reply, fetch_of, fetched_with, or_fetches, turn_of, turned_at, turned_by}
use Rattle.ivy_host.specs.stated.Managers.{Managed, managed_ops}
use Rattle.ivy_host.proofs.Programs.{asked-used, turned-program}
use Rattle.ivy_host.proofs.Turns.{asks-turned, either_fetch}
use Rattle.ivy_site.specs.Calls.{BeginsFetch}
use Rattle.ivy_site.specs.Handed.{site_fetching}
use Rattle.ivy_site.specs.SiteView.{SiteView}
use Rattle.ivy_site.specs.Sites.{AreUsed, IsSameNode}
use Rattle.ivy_embedded.specs.declared.lending.Lending.{Lending}
use Rattle.ivy_embedded.specs.declared.lending.Lending.TheVariants.{Unlent}
use Rattle.ivy_embedded.specs.Calls.{IsLender}
use Rattle.ivy_embedded.specs.Lending.{HasUnanswered, is_had, lending_in, may_ask, page_asked}
use Rattle.ivy_embedded.proofs.Delivered.{table_of}
use Rattle.ivy_embedded.proofs.Going.{core_of, turned_core}
use Rattle.ivy_embedded.proofs.Holding.{IsHeld, had_unlent, unlent_or}

abbrev H : Type 0
H = Host Managed

-- the entries of all other pages stay
abbrev KeepsOthers : ℕ → Table → Table → Type 0
KeepsOthers page t new = (p : ℕ) → p ≢ page → entry_at new p ≡ entry_at t p

-- where a page is fetched, or is not
fetch_others : (c : Coherent Managed) (page : ℕ) (write : Bool) (call : ℕ)
    → KeepsOthers page c.table (fetch managed_ops c page write call).after.table
fetch_others c page write call =
    let rows : FetchRows managed_ops c page write call
    (λ (f : Fetch Managed). KeepsOthers page c.table f.after.table) = record {
      none = λ p apart. refl;
      read = λ i is room short reads p apart. get_or-set_other c.table.entries page p _ nothing apart;
      write = λ i is room short writes other p apart.
          get_or-set_other c.table.entries page p _ nothing apart;
      owner = λ i is room short writes own p apart.
          get_or-set_other c.table.entries page p _ nothing apart;
    } in fetch-by_rows rows

fetch_of-others : (n : H) (f : HandedFetch)
    → KeepsOthers f.page (table_of n) (fetch_of managed_ops n f).after.coherence.table
fetch_of-others n f =
    either_fetch managed_ops
    (λ (x : MemoryFetch Managed). KeepsOthers f.page (table_of n) x.after.coherence.table) n f
    (λ p apart. refl)
    (λ inside below. fetch_others n.memory.coherence f.page f.write (length n.history + 1))

-- the last one of a list
last_there : {X : Type 0} (xs : List X) (x : X) → slice_get (xs ++ x ∷ []) (length xs) ≡ Some x
last_there [] x = refl
last_there (y ∷ xs) x = last_there xs x

-- A node whose fetches were used up is to fetch one more page, and has a turn, after which they are used
-- up again: that turn was of this fetch.
module _ (n : H) (page : ℕ) (write : Bool) (o : Outcome H) (before : AreUsed n) (after : AreUsed o.after)
  where
    abbrev ahead_on : H
    ahead_on = fetching page write n

    one_more : (p : Program) → IsCalled p
        → length (fetches_of (ahead page write p)) ≡ length (fetches_of p) + 1
    one_more (Written is) called = absurd called
    one_more (Called rows fs) called = length-append fs (fetch_after rows page write ∷ [])

    -- a turn that uses none up is another one
    of_other : IsCalled n.process.program → o.after.process.program ≡ ahead page write n.process.program
        → turned_at managed_ops ahead_on n.memory.asked ≡ Some o → ⊥
    of_other called program is =
        let same : o.after.used ≡ n.used = asked-used ahead_on n.memory.asked o is in
        let long : length (fetches_of o.after.process.program) ≡ length (fetches_of n.process.program) + 1 =
        ap (λ (p : Program). length (fetches_of p)) program ∙ one_more n.process.program called in
        absurd (omega (arith, same, long, before, after))

    abbrev Others : Type 0
    Others = KeepsOthers page (table_of n) (table_of o.after)

    by_reply : IsCalled n.process.program → o.after.process.program ≡ ahead page write n.process.program
        → (f : HandedFetch) → f.page ≡ page → (r : Option (Outcome H))
        → asks_reply managed_ops ahead_on n.memory.asked ≡ r → or_fetches managed_ops ahead_on f r ≡ Some o
        → Others
    by_reply called program f of (Some x) is e =
        absurd (of_other called program (asks-turned managed_ops ahead_on n.memory.asked x is ∙ e))
    by_reply called program f of None is e =
        let same = same_Some (fetched_with ahead_on (fetch_of managed_ops ahead_on f)) o e in
        λ p apart.
        ap (λ (x : Outcome H). entry_at (table_of x.after) p) (sym same)
        ∙ fetch_of-others ahead_on f p (λ y. apart (y ∙ of))

    by_due : IsCalled n.process.program → o.after.process.program ≡ ahead page write n.process.program
        → (f : HandedFetch) → f.page ≡ page → (b : Bool)
        → turned_by managed_ops ahead_on (if b then None else Some f) ≡ Some o → Others
    by_due called program f of true e = absurd (of_other called program e)
    by_due called program f of false e =
        by_reply called program f of (asks_reply managed_ops ahead_on n.memory.asked) refl e

    abbrev reached : ℕ
    reached = n.process.state.place + length (in_progress n.memory.asked n.memory.along)

    by_program : (p : Program) → n.process.program ≡ p → IsCalled p
        → o.after.process.program ≡ ahead page write n.process.program
        → turned_by managed_ops ahead_on (due_of (ahead page write p) reached n.used) ≡ Some o → Others
    by_program (Written is) own called program e = absurd called
    by_program (Called rows fs) own called program e =
        let f : HandedFetch = fetch_after rows page write in
        let all : n.used ≡ length fs = before ∙ ap (λ (p : Program). length (fetches_of p)) own in
        let last : slice_get (fs ++ f ∷ []) n.used ≡ Some f =
        ap (slice_get (fs ++ f ∷ [])) all ∙ last_there fs f in
        by_due (subst IsCalled (sym own) called) program f refl (nat_lt reached f.after)
        (sym (ap (λ x. turned_by managed_ops ahead_on (if_reached reached x)) last) ∙ e)

    pub fetched_others : IsCalled n.process.program → turn_of managed_ops ahead_on ≡ Some o → Others
    unfolding turn_of
    fetched_others called e =
        by_program n.process.program refl called (turned-program ahead_on o e) e

-- the calls without a reply are those before
unanswered_ahead : (page : ℕ) (write : Bool) (p : Process) (call : Call)
    → HasUnanswered (process_ahead page write p) call → HasUnanswered p call
unanswered_ahead page write p call h =
    by p.program p.state (record { place = h.place; from = h.from; made = h.made })
  where
    by : (program : Program) (state : State)
        → HasUnanswered (record { program = ahead page write program; state = state }) call
        → HasUnanswered (record { program = program; state = state }) call
    by (Written is) state h = record { place = h.place; from = h.from; made = h.made }
    by (Called rows fs) state h = record { place = h.place; from = h.from; made = h.made }

-- each page that is lent is had, where that page is not lent
pub fetched_held : (lent : List Lending) (page : ℕ) (write : Bool) (old new : SiteView)
    → lending_in lent page ≡ Unlent → IsCalled (core_of old).process.program → AreUsed (core_of old)
    → AreUsed (core_of new) → BeginsFetch page write old new → IsHeld lent (core_of old)
    → IsHeld lent (core_of new)
fetched_held lent page write old new unlent called before after b held p =
    elim (unlent_or (lending_in lent p)) [
      | inl none ↦
          had_unlent (access_at (entry_at (table_of (core_of new)) p)) (lending_in lent p) none
      | inr some ↦
          let core = turned_core (site_fetching page write old) new b.turns in
          let apart : p ≢ page = λ same. some (ap (lending_in lent) same ∙ unlent) in
          let entry = fetched_others (core_of old) page write b.turns.outcome before
          (subst AreUsed (sym core) after) called b.turns.turn p apart in
          subst (λ e. is_had (access_at e) (lending_in lent p) ≡ true)
          (sym entry ∙ ap (λ (h : H). entry_at (table_of h) p) core) (held p)
    ]

-- a page that is not lent is fetched
pub fetched_lender : (lent : List Lending) (at page : ℕ) (write : Bool) (old new : SiteView)
    → IsLender old lent at → lending_in lent page ≡ Unlent → AreUsed (core_of old)
    → AreUsed (core_of new) → IsSameNode old new → BeginsFetch page write old new
    → IsLender new lent at
fetched_lender lent at page write old new l unlent before after same b =
    let config : new.config ≡ old.config = same.0 in
    let less : (call : Call) → HasUnanswered (core_of new).process call
    → HasUnanswered (core_of old).process call =
    (λ call h. unanswered_ahead page write (core_of old).process call
    (subst (λ p. HasUnanswered p call) b.process h)) in
    record {
      each = l.each ∙ ap (λ (c : Config). c.pages) (sym config);
      first = l.first;
      had = fetched_held lent page write old new unlent l.own before after b l.had;
      own = subst (λ (p : Process). IsCalled p.program) (sym b.process)
          (ahead_called page write (core_of old).process.program l.own);
      calls = λ call h.
          ap (λ c. may_ask lent (asked_of c call)) config ∙ l.calls call (less call h);
      wide = λ call h. l.wide call (less call h);
      at = λ call h. ap (λ c. page_asked (asked_of c call)) config ∙ l.at call (less call h);
    }
