-- What an access of a node's program comes to, what it asks for, and what that weighs.
use Rattle.std.proofs.Common.{◌≡◌, ◌≤◌, ◌+◌, ◌*◌, ℕ, Bool, true, false, List, [], ◌∷◌, Option, Some, None, if◌then◌else◌, refl, sym, ap, ◌∙◌, arith, nat_lt, Ok, Err}
use Rattle.std.proofs.lemmas.Option.{none-some}
use Rattle.ivy_model.specs.declared.Config.{Config}
use Rattle.ivy_model.specs.stated.Config.{count_len}
use Rattle.ivy_model.specs.declared.Call.TheVariants as call
use Rattle.ivy_model.specs.declared.Reply.{Reply}
use Rattle.ivy_model.specs.declared.Fault.{Fault}
use Rattle.ivy_wire.specs.declared.Content.TheVariants as content
use Rattle.ivy_wire.specs.stated.Data.{Parcel}
use Rattle.ivy_wire.specs.stated.Posts.{parcel_to}
use Rattle.ivy_pagetable.specs.declared.Entry.{Entry}
use Rattle.ivy_pagetable.specs.declared.Entry.TheVariants as entry
use Rattle.ivy_pagetable.specs.declared.Word.{Word}
use Rattle.ivy_pagetable.specs.declared.Word.TheVariants as word
use Rattle.ivy_pagetable.specs.stated.Accesses.{reads, suffices}
use Rattle.ivy_pagetable.specs.stated.Entries.{is_locked, put_offs}
use Rattle.ivy_pagetable.specs.stated.Manager.{Ops}
use Rattle.ivy_pagetable.specs.stated.States.{IdleState}
use Rattle.ivy_pagetable.specs.stated.Tables.{entry_at}
use Rattle.ivy_pagetable.specs.stated.Words.{needs_write}
use Rattle.ivy_coherence.specs.stated.Coherent.{Coherent}
use Rattle.ivy_coherence.specs.stated.Fetching.{suits, joined_by}
use Rattle.ivy_coherence.specs.stated.PageFaults.{Begun, waiting_from, fault_entry, busy, hit, faulted, fault_posted, taken_up, waits_beside, accessed, begun_at, begun}
use Rattle.ivy_coherence.specs.stated.Serving.{invalidations}
use Rattle.ivy_memory.specs.declared.Asked.TheVariants as kinds
use Rattle.ivy_memory.specs.stated.Asking.{asked_of, count_asked}
use Rattle.ivy_memory.specs.stated.Memories.{first_reply}
use Rattle.proof_worlds.proofs.progress.Works.{bare, work_posted, orders_most}
use Rattle.proof_answers.proofs.answers.Weights.{cost, fault_most, open_weight, join_weight}

module _ {S : Type 0} (ops : Ops S) (k : Coherent S) (page : ℕ) (w : Word) (number : ℕ) where
  pub data Access (b : Begun S) : Type 0 where
    is_busy : b ≡ busy ops k → Access b
    is_hit : b ≡ hit ops k page w → Access b
    is_fault : (s : IdleState) → entry_at k.table page ≡ entry.Idle s
        → suffices s.access w ≡ false → b ≡ faulted ops k page w number s → Access b
    is_joined : (e : Entry) → entry_at k.table page ≡ e → is_locked e ≡ true
        → suits e (needs_write w) ≡ true → b ≡ taken_up ops k page w e → Access b
    is_beside : b ≡ waits_beside ops k → Access b

  accessing : (s : IdleState) → entry_at k.table page ≡ entry.Idle s → (b : Bool)
      → suffices s.access w ≡ b
      → Access (if b then hit ops k page w else faulted ops k page w number s)
  accessing s at true enough = is_hit refl
  accessing s at false short = is_fault s at short refl

  joining : (e : Entry) → entry_at k.table page ≡ e → is_locked e ≡ true → (b : Bool)
      → suits e (needs_write w) ≡ b
      → Access (if b then taken_up ops k page w e else waits_beside ops k)
  joining e at lock true fits = is_joined e at lock fits refl
  joining e at lock false fits = is_beside refl

  at_entry : (e : Entry) → entry_at k.table page ≡ e → Access (accessed ops k page w number e)
  at_entry (entry.Idle s) at = accessing s at (suffices s.access w) refl
  at_entry (entry.AwaitRead s) at =
      joining (entry.AwaitRead s) at refl (suits (entry.AwaitRead s) (needs_write w)) refl
  at_entry (entry.AwaitWrite s) at =
      joining (entry.AwaitWrite s) at refl (suits (entry.AwaitWrite s) (needs_write w)) refl
  at_entry (entry.AwaitAcks s) at =
      joining (entry.AwaitAcks s) at refl (suits (entry.AwaitAcks s) (needs_write w)) refl

  at_lock : (l : Option ℕ) → Access (begun_at ops k page w number l)
  at_lock None = at_entry (entry_at k.table page) refl
  at_lock (Some p) = is_busy refl

  pub access : Access (begun ops k page w number)
  unfolding begun
  access = at_lock k.locked

  module _ (s : IdleState) where
    -- the entry that it waits at, and what is posted, by whether it writes, and who owns the page
    abbrev pub entry_to : Bool → Bool → Entry
    entry_to true true =
        entry.AwaitAcks (record { left = s.copies; waiting = waiting_from w number })
    entry_to true false =
        entry.AwaitWrite (record { had_copy = reads s.access; waiting = waiting_from w number })
    entry_to false owner = entry.AwaitRead (waiting_from w number)

    pub entry_is : (b o : Bool) → (if b then (if o
        then entry.AwaitAcks (record { left = s.copies; waiting = waiting_from w number })
        else entry.AwaitWrite (record {
          had_copy = reads s.access;
          waiting = waiting_from w number;
        })) else entry.AwaitRead (waiting_from w number)) ≡ entry_to b o
    entry_is true true = refl
    entry_is true false = refl
    entry_is false o = refl

    abbrev posted_to : Bool → Bool → List Parcel
    posted_to true true = invalidations k.me page number s.copies
    posted_to true false =
        parcel_to k.me (ops.next_hop k.manager page) k.me number (content.WriteReq page) ∷ []
    posted_to false owner =
        parcel_to k.me (ops.next_hop k.manager page) k.me number (content.ReadReq page) ∷ []

    posted_is : (b o : Bool) → (if b then (if o then invalidations k.me page number s.copies
        else parcel_to k.me (ops.next_hop k.manager page) k.me number (content.WriteReq page) ∷ [])
        else parcel_to k.me (ops.next_hop k.manager page) k.me number (content.ReadReq page) ∷ [])
        ≡ posted_to b o
    posted_is true true = refl
    posted_is true false = refl
    posted_is false o = refl

    pub none_put : put_offs (fault_entry w number s) ≡ []
    none_put = ap put_offs (entry_is (needs_write w) s.owner) ∙ either (needs_write w) s.owner
      where
        either : (b o : Bool) → put_offs (entry_to b o) ≡ []
        either true true = refl
        either true false = refl
        either false o = refl

    pub fault_open : open_weight (fault_entry w number s) ≡ 0
    fault_open =
        ap open_weight (entry_is (needs_write w) s.owner) ∙ either (needs_write w) s.owner
      where
        either : (b o : Bool) → open_weight (entry_to b o) ≡ 0
        either true true = refl
        either true false = refl
        either false o = refl

    pub fault_bare : bare cost (fault_entry w number s) ≡ 0
    fault_bare =
        ap (bare cost) (entry_is (needs_write w) s.owner) ∙ either (needs_write w) s.owner
      where
        either : (b o : Bool) → bare cost (entry_to b o) ≡ 0
        either true true = refl
        either true false = refl
        either false o = refl

    pub fault_weight : work_posted cost (fault_posted ops k page w number s)
        ≤ fault_most
    fault_weight =
        (let a = either (needs_write w) s.owner in
        let b : work_posted cost (fault_posted ops k page w number s)
        ≡ work_posted cost (posted_to (needs_write w) s.owner) =
        ap (work_posted cost) (posted_is (needs_write w) s.owner) in
        omega (arith, a, b))
      where
        either : (b o : Bool) → work_posted cost (posted_to b o)
            ≤ fault_most
        either true true =
            (let a = orders_most cost k.me page number s.copies in omega (arith, a))
        either true false = omega arith
        either false o = omega arith

pub none_there : (a b : Option Reply) → first_reply a b ≡ None → b ≡ None
none_there None b is = is
none_there (Some r) b is = absurd (none-some r (sym is))

-- a word that joins a fetch leaves what a lost copy costs
pub joined_bare : (e : Entry) (w : Word) → bare cost (joined_by e w) ≡ bare cost e
joined_bare (entry.Idle s) w = refl
joined_bare (entry.AwaitRead s) w = refl
joined_bare (entry.AwaitWrite s) w = refl
joined_bare (entry.AwaitAcks s) w = refl

pub joined_open : (e : Entry) (w : Word) → open_weight (joined_by e w) ≡ open_weight e
joined_open (entry.Idle s) w = refl
joined_open (entry.AwaitRead s) w = refl
joined_open (entry.AwaitWrite s) w = refl
joined_open (entry.AwaitAcks s) w = refl

-- an entry that an await suits
pub read_join : (e : Entry) (k least : ℕ) → suits e false ≡ true
    → join_weight (Some (call.Await k least)) None e ≡ 2 * fault_most + 2
read_join (entry.Idle s) k least fits = absurd cc
read_join (entry.AwaitRead s) k least fits = refl
read_join (entry.AwaitWrite s) k least fits = absurd cc
read_join (entry.AwaitAcks s) k least fits = absurd cc

-- what an await asks for
count_is : (b : Bool) (v : Word) (fault : Fault) (page : ℕ) (w : Word)
    → count_asked (if b then Ok v else Err fault) ≡ kinds.Word page w → (page ≡ 0) × (w ≡ v)
count_is true v fault page w is =
    (let f : kinds.Word 0 v ≡ kinds.Word page w = is in (cc, cc))
count_is false v fault page w is = absurd cc

pub await_asks : (c : Config) (k least page : ℕ) (w : Word)
    → asked_of c (call.Await k least) ≡ kinds.Word page w
    → (page ≡ 0) × (w ≡ word.Await (8 * k) least)
await_asks c k least page w is =
    count_is (nat_lt k (count_len c)) (word.Await (8 * k) least) _ page w is
