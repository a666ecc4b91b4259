-- What a node weighs: what may be posted for its call yet, and the pages that it fetches.
use Rattle.std.proofs.Common.{◌≡◌, ◌≤◌, ◌<◌, ◌+◌, ◌-◌, ◌*◌, ℕ, zero, suc, true, false, not, cond, List, [], ◌∷◌, length, Option, Some, None, eqb, refl, sym, subst, arith}
use Rattle.std.specs.List.{Contains}
use Rattle.std.proofs.lemmas.Bool.{eq-eqb}
use Rattle.ivy_model.specs.declared.Call.{Call}
use Rattle.ivy_model.specs.declared.Call.TheVariants as call
use Rattle.ivy_model.specs.declared.Reply.{Reply}
use Rattle.ivy_model.specs.stated.Limits.{most_nodes}
use Rattle.ivy_pagetable.specs.declared.Entry.{Entry}
use Rattle.ivy_pagetable.specs.declared.Entry.TheVariants as entry
use Rattle.ivy_pagetable.specs.declared.Out.{Out}
use Rattle.ivy_pagetable.specs.stated.Entries.{is_locked}
use Rattle.ivy_pagetable.specs.stated.Tables.{entry_at}
use Rattle.ivy_coherence.specs.stated.Fetching.{without_page}
use Rattle.ivy_coherence.proofs.keeping.Fetched.{fewer_without}
use Rattle.ivy_memory.specs.stated.Memories.{reply_there}
use Rattle.ivy_host.specs.stated.Hosts.{Host}
use Rattle.proof_worlds.proofs.progress.Works.{bare, bare_most}

-- what a lost copy costs: it is asked for again, and comes
abbrev pub cost : ℕ
cost = 3

-- the work that is posted where a page is asked for is no more
abbrev pub fault_most : ℕ
fault_most = (cost + 2) * most_nodes + cost + 2

-- a page may be asked for yet: no word waits, and the call has no reply
abbrev pub reply_weight : Option Reply → ℕ
reply_weight None = fault_most + 1
reply_weight (Some r) = 0

abbrev pub try_weight : Option ℕ → Option Out → ℕ
try_weight None answer = reply_weight (reply_there answer)
try_weight (Some page) answer = 0

-- A call may begin, and may have to be tried again once its page came that is fetched; and an await
-- may ask for a copy of page 0 again.
abbrev pub call_weight : Option Call → Entry → Option ℕ → Option Out → ℕ
call_weight None e lock answer = 2 * fault_most + 2 * cost + 3
call_weight (Some (call.Await k least)) e lock answer = bare cost e
call_weight (Some called) e lock answer = try_weight lock answer

-- the pages that are fetched
abbrev pub fetch_weight : {S : Type 0} → Host S → ℕ
fetch_weight n = length n.memory.coherence.fetched

abbrev pub host_weight : {S : Type 0} → Host S → ℕ
host_weight n =
    call_weight n.memory.asked (entry_at n.memory.coherence.table 0) n.memory.coherence.locked
    n.memory.coherence.done + fetch_weight n

bare_few : (e : Entry) → bare cost e ≤ cost
bare_few (entry.Idle s) = bare_most cost s
bare_few (entry.AwaitRead s) = omega arith
bare_few (entry.AwaitWrite s) = omega arith
bare_few (entry.AwaitAcks s) = omega arith

reply_few : (a : Option Reply) → reply_weight a ≤ fault_most + 1
reply_few None = omega arith
reply_few (Some r) = omega arith

try_few : (lock : Option ℕ) (answer : Option Out) → try_weight lock answer ≤ fault_most + 1
try_few None answer = reply_few (reply_there answer)
try_few (Some page) answer = omega arith

pub call_few : (called : Call) (e : Entry) (lock : Option ℕ) (answer : Option Out)
    → call_weight (Some called) e lock answer ≤ fault_most + 1 + cost
call_few (call.Await k least) e lock answer = (let a = bare_few e in omega (arith, a))
call_few called e lock answer = (let a = try_few lock answer in omega (arith, a))

-- where the call is no await, and where it is
abbrev pub IsNoAwait : Call → Type 0
IsNoAwait (call.Await k least) = ⊥
IsNoAwait called = Unit {0}

-- where a word begins to wait, and no lost copy costs more, a call weighs no more
pub call_waits : (a : Option Call) (e z : Entry) (page : ℕ) (lock : Option ℕ) (answer after : Option Out)
    → bare cost z ≤ bare cost e → call_weight a z (Some page) after ≤ call_weight a e lock answer
call_waits None e z page lock answer after le = omega arith
call_waits (Some (call.Await k least)) e z page lock answer after le = le
call_waits (Some called) e z page lock answer after le = omega arith

-- what a node weighs more where its entry of page 0 changed
pub heavier : (a : Option Call) (e z : Entry) (lock lock' : Option ℕ) (answer answer' : Option Out)
    → ((called : Call) → a ≡ Some called → IsNoAwait called → try_weight lock' answer' ≤ try_weight lock answer)
    → call_weight a z lock' answer' ≤ call_weight a e lock answer + (bare cost z - bare cost e)
heavier None e z lock lock' answer answer' tries = omega arith
heavier (Some (call.Await k least)) e z lock lock' answer answer' tries = omega arith
heavier (Some called) e z lock lock' answer answer' tries =
    (let a = tries called refl tt in omega (arith, a))

-- of pages without one that is among them there are less
pub less_without : (page : ℕ) (ps : List ℕ) → Contains ps page
    → length (without_page page ps) < length ps
less_without page [] h = absurd (omega (arith, h.1))
less_without page (q ∷ qs) (zero, lt, is) =
    let rest = fewer_without page qs in
    subst (λ b. length (cond (not b) (q ∷ without_page page qs) (without_page page qs))
    < length (q ∷ qs)) (sym (eq-eqb q page is)) (omega (arith, rest))
less_without page (q ∷ qs) (suc k, lt, is) =
    let rest : length (without_page page qs) < length qs =
    less_without page qs (k, omega (arith, lt), is) in
    elim (eqb q page) as (λ b. length (cond (not b) (q ∷ without_page page qs) (without_page page qs))
    < length (q ∷ qs)) [
      | true ↦ omega (arith, rest)
      | false ↦ omega (arith, rest)
    ]

-- What a node weighs besides where a page that came counts. An entry that is not locked: a page may
-- be fetched there. A word that waits: its entry may be free again. And an await that might join.
abbrev pub open_weight : Entry → ℕ
open_weight (entry.Idle s) = 2 * fault_most + 3
open_weight e = 0

abbrev pub lock_weight : Option ℕ → ℕ
lock_weight None = 0
lock_weight (Some page) = 2 * fault_most + 3

abbrev pub join_weight : Option Call → Option ℕ → Entry → ℕ
join_weight (Some (call.Await k least)) None (entry.AwaitRead s) = 2 * fault_most + 2
join_weight a lock e = 0

abbrev pub side_weight : {S : Type 0} → Host S → ℕ
side_weight n =
    2 * host_weight n
    + (lock_weight n.memory.coherence.locked
    + join_weight n.memory.asked n.memory.coherence.locked (entry_at n.memory.coherence.table 0))

pub join_none : (lock : Option ℕ) (e : Entry) → join_weight None lock e ≡ 0
join_none lock e = refl

pub join_waits : (a : Option Call) (page : ℕ) (e : Entry) → join_weight a (Some page) e ≡ 0
join_waits None page e = refl
join_waits (Some (call.Await k least)) page e = refl
join_waits (Some called) page e = refl

await_few : (lock : Option ℕ) (e : Entry) (k least : ℕ)
    → join_weight (Some (call.Await k least)) lock e ≤ 2 * fault_most + 2
await_few (Some page) e k least = omega arith
await_few None (entry.AwaitRead s) k least = omega arith
await_few None (entry.Idle s) k least = omega arith
await_few None (entry.AwaitWrite s) k least = omega arith
await_few None (entry.AwaitAcks s) k least = omega arith

pub join_few : (a : Option Call) (lock : Option ℕ) (e : Entry)
    → join_weight a lock e ≤ 2 * fault_most + 2
join_few None lock e = omega arith
join_few (Some (call.Await k least)) lock e = await_few lock e k least
join_few (Some called) lock e = omega arith

pub locked_open : (e : Entry) → is_locked e ≡ true → open_weight e ≡ 0
locked_open (entry.Idle s) lock = absurd cc
locked_open (entry.AwaitRead s) lock = refl
locked_open (entry.AwaitWrite s) lock = refl
locked_open (entry.AwaitAcks s) lock = refl
