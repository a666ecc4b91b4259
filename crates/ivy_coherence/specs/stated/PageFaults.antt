-- What an access of this node's program comes to (Li and Hudak 1989): what the program is told, the
-- state after, and what is posted, in order.
use Rattle.std.specs.Prelude.{ℕ, Bool, true, false, ◌||◌, ◌==◌, ◌++◌, length}
use Rattle.std.specs.Prelude.{List, [], ◌∷◌, Option, Some, None, if◌then◌else◌}
use Rattle.ivy_wire.specs.declared.Content.TheVariants as content
use Rattle.ivy_wire.specs.stated.Data.{Parcel}
use Rattle.ivy_wire.specs.stated.Posts.{parcel_to}
use Rattle.ivy_pagetable.specs.declared.Entry.{Entry}
use Rattle.ivy_pagetable.specs.declared.Entry.TheVariants as entry
use Rattle.ivy_pagetable.specs.declared.Word.{Word}
use Rattle.ivy_pagetable.specs.stated.States.{IdleState, WaitingState}
use Rattle.ivy_pagetable.specs.stated.Accesses.{reads, suffices}
use Rattle.ivy_pagetable.specs.stated.Tables.{entry_at, page_at, with_entry, with_page}
use Rattle.ivy_pagetable.specs.stated.Words.{carried_out, needs_write, fetch_word}
use Rattle.ivy_pagetable.specs.stated.Manager.{Ops}
use Rattle.ivy_coherence.specs.declared.need.Need.{Need}
use Rattle.ivy_coherence.specs.declared.need.Need.TheVariants.{Have, Started, Busy, Fetched}
use Rattle.ivy_coherence.specs.stated.Coherent.{Coherent}
use Rattle.ivy_coherence.specs.stated.Fetching.{most_fetched, without_page, suits, joined_by}
use Rattle.ivy_coherence.specs.stated.Serving.{invalidations}

-- what an access came to, the node's coherence after it, and what is posted
pub record Begun (S : Type 0) : Type 0 where
  pub need : Need
  pub after : Coherent S
  pub posted : List Parcel

-- the word of this call, and nothing put off yet
abbrev pub waiting_from : Word → ℕ → WaitingState
waiting_from word call = record { word = word; call = call; put_off = []; sent_on = false }

-- the entry that it waits at
abbrev pub fault_entry : Word → ℕ → IdleState → Entry
fault_entry word call s =
    if needs_write word
    then (if s.owner
    then entry.AwaitAcks (record { left = s.copies; waiting = waiting_from word call })
    else entry.AwaitWrite (record { had_copy = reads s.access; waiting = waiting_from word call }))
    else entry.AwaitRead (waiting_from word call)

-- these words wait along with the one that has begun to wait
abbrev pub along : {S : Type 0} → List Word → Coherent S → Coherent S
along [] c = c
along (word ∷ words) c = record c { more = word ∷ words }

-- where that one has begun to wait
abbrev pub along_where : {S : Type 0} → Need → List Word → Coherent S → Coherent S
along_where Started words c = along words c
along_where need words c = c

module _ {S : Type 0} (ops : Ops S) where
  -- a word of this node waits at an entry already: nothing changes
  abbrev pub busy : Coherent S → Begun S
  busy c = record { need = Busy; after = c; posted = [] }

  -- access suffices: the word is carried out at once
  abbrev pub hit : Coherent S → ℕ → Word → Begun S
  hit c page word =
      let carried = carried_out word (page_at c.table page) in
      record {
        need = Have carried.out;
        after = record c { table = with_page c.table page carried.bytes };
        posted = [];
      }

  -- A read fault: a copy is asked for where the owner is believed to be. A write fault: the owner
  -- tells those that have a copy to give it up, another node asks for the page.
  abbrev pub fault_posted : Coherent S → ℕ → Word → ℕ → IdleState → List Parcel
  fault_posted c page word call s =
      if needs_write word
      then (if s.owner then invalidations c.me page call s.copies
      else parcel_to c.me (ops.next_hop c.manager page) c.me call (content.WriteReq page) ∷ [])
      else parcel_to c.me (ops.next_hop c.manager page) c.me call (content.ReadReq page) ∷ []

  -- the word waits at this entry then
  abbrev pub started : Coherent S → ℕ → Entry → List Parcel → Begun S
  started c page e posted = record {
    need = Started;
    after = record c { table = with_entry c.table page e; locked = Some page };
    posted = posted;
  }

  -- access does not suffice: the word waits, and what it lacks is asked for
  abbrev pub faulted : Coherent S → ℕ → Word → ℕ → IdleState → Begun S
  faulted c page word call s =
      started c page (fault_entry word call s) (fault_posted c page word call s)

  -- the word waits at the entry of the page that is fetched from now on, under the number of the
  -- fetch; nothing is asked for
  abbrev pub taken_up : Coherent S → ℕ → Word → Entry → Begun S
  taken_up c page word e = record {
    need = Started;
    after = record c {
      table = with_entry c.table page (joined_by e word);
      locked = Some page;
      fetched = without_page page c.fetched;
    };
    posted = [];
  }

  -- the page is fetched otherwise: the word waits at no entry, and nothing changes
  abbrev pub waits_beside : Coherent S → Begun S
  waits_beside c = record { need = Fetched; after = c; posted = [] }

  -- an access to a page that is fetched: a word joins that needs to write just where the page was
  -- asked for to be written
  abbrev pub joined : Coherent S → ℕ → Word → Entry → Begun S
  joined c page word e =
      if suits e (needs_write word) then taken_up c page word e else waits_beside c

  -- an access to a page whose entry is this one
  abbrev pub accessed : Coherent S → ℕ → Word → ℕ → Entry → Begun S
  accessed c page word call (entry.Idle s) =
      if suffices s.access word then hit c page word else faulted c page word call s
  accessed c page word call e = joined c page word e

  -- no word begins while another one waits at a locked entry of this node
  abbrev pub begun_at : Coherent S → ℕ → Word → ℕ → Option ℕ → Begun S
  begun_at c page word call None = accessed c page word call (entry_at c.table page)
  begun_at c page word call (Some locked) = busy c

  -- an access of this node's program, for the call of this number
  unfoldable pub begun : Coherent S → ℕ → Word → ℕ → Begun S
  begun c page word call = begun_at c page word call c.locked

  -- an access to a row of words, of which this is the first: where it has to wait, the others wait along
  abbrev pub begun_row : Coherent S → ℕ → Word → List Word → ℕ → Begun S
  begun_row c page word rest call =
      let b = begun c page word call in
      record { need = b.need; after = along_where b.need rest b.after; posted = b.posted }

-- what a fetch came to, the node's coherence after it, and what is posted
pub record Fetch (S : Type 0) : Type 0 where
  pub begun : Bool
  pub after : Coherent S
  pub posted : List Parcel

-- so many pages are fetched that no more can be
abbrev pub is_full : {S : Type 0} → Coherent S → Bool
is_full c = length c.fetched == most_fetched

-- The entry of a page that may be fetched: no word and no fetch waits for it, its access does not
-- suffice, and fewer pages are fetched than can be.
abbrev pub fetchable_at : Bool → Bool → Entry → Option IdleState
fetchable_at full write (entry.Idle s) =
    if full || suffices s.access (fetch_word write) then None else Some s
fetchable_at full write e = None

abbrev pub fetchable : {S : Type 0} → Coherent S → ℕ → Bool → Option IdleState
fetchable c page write = fetchable_at (is_full c) write (entry_at c.table page)

module _ {S : Type 0} (ops : Ops S) where
  -- nothing is fetched, and nothing changes
  abbrev pub not_fetched : Coherent S → Fetch S
  not_fetched c = record { begun = false; after = c; posted = [] }

  -- the page is fetched from now on, and its entry is this one; no word waits there
  abbrev pub fetch_started : Coherent S → ℕ → Entry → List Parcel → Fetch S
  fetch_started c page e posted = record {
    begun = true;
    after = record c { table = with_entry c.table page e; fetched = c.fetched ++ page ∷ [] };
    posted = posted;
  }

  -- it is asked for as a word of that kind would, under the number of the next record
  abbrev pub fetch_begun : Coherent S → ℕ → Bool → ℕ → IdleState → Fetch S
  fetch_begun c page write call s =
      fetch_started c page (fault_entry (fetch_word write) call s)
      (fault_posted ops c page (fetch_word write) call s)

  abbrev pub fetched_as : Coherent S → ℕ → Bool → ℕ → Option IdleState → Fetch S
  fetched_as c page write call None = not_fetched c
  fetched_as c page write call (Some s) = fetch_begun c page write call s

  -- a page is fetched, to read or to write, where it may be
  unfoldable pub fetch : Coherent S → ℕ → Bool → ℕ → Fetch S
  fetch c page write call = fetched_as c page write call (fetchable c page write)
