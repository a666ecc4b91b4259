-- What a message of another node does at one node (Li and Hudak 1989): the state after it and what
-- is posted, in order.
use Rattle.std.specs.Prelude.{ℕ, Bool, true, false, not, ◌&&◌, List, [], ◌∷◌, Option, Some, None, if◌then◌else◌, ◌==◌}
use Rattle.std.specs.FinSet as set
use Rattle.ivy_wire.specs.declared.Content.TheVariants as content
use Rattle.ivy_wire.specs.stated.Data.{Content, Message, Parcel}
use Rattle.ivy_wire.specs.stated.Posts.{parcel_to}
use Rattle.ivy_pagetable.specs.declared.Entry.{Entry}
use Rattle.ivy_pagetable.specs.declared.Entry.TheVariants as entry
use Rattle.ivy_pagetable.specs.declared.PutOff.{PutOff}
use Rattle.ivy_pagetable.specs.declared.Request.{Request}
use Rattle.ivy_pagetable.specs.declared.Request.TheVariants as request
use Rattle.ivy_pagetable.specs.stated.NodeSets.{Nodes, nodes_with}
use Rattle.ivy_pagetable.specs.stated.States.{IdleState, WaitingState}
use Rattle.ivy_pagetable.specs.stated.Entries.{can_put_off, with_put_off, without, copying, owning}
use Rattle.ivy_pagetable.specs.stated.Tables.{entry_at, page_at, with_entry, with_page}
use Rattle.ivy_pagetable.specs.stated.Words.{carried_out}
use Rattle.ivy_pagetable.specs.stated.Manager.{Ops}
use Rattle.ivy_coherence.specs.stated.Coherent.{Coherent}
use Rattle.ivy_coherence.specs.stated.Fetching.{without_page, waits_at}
use Rattle.ivy_coherence.specs.stated.Several.{all_carried}
use Rattle.ivy_coherence.specs.stated.Serving.{Serving, counted, put_off_served, invalidations, is_write}

-- the coherence after a message, and what is posted
pub record CoherenceEffect (S : Type 0) : Type 0 where
  pub after : Coherent S
  pub posted : List Parcel

-- the set has no node
abbrev pub is_none : Nodes → Bool
is_none nodes = set.len nodes == 0

-- an order to give a copy up
abbrev pub is_order : Request → Bool
is_order request.Invalidate = true
is_order kind = false

-- the entry once the page, or a copy, came
abbrev pub unlocked_as : Request → IdleState
unlocked_as kind = if is_write kind then owning else copying

-- what the manager learns once a copy came: of it, if no request was sent on while it was awaited
abbrev pub copy_reply : WaitingState → Option Request
copy_reply s = if s.sent_on then None else Some request.Read

-- once the page, or a copy, came
unfoldable pub reply_as : Request → WaitingState → Option Request
reply_as kind s = if is_write kind then Some request.Write else copy_reply s

-- a request was sent on meanwhile
abbrev pub sending : WaitingState → WaitingState
sending s = record s { sent_on = true }

module _ {S : Type 0} (ops : Ops S) where
  -- a message that fits no rule is counted, and changes nothing else
  abbrev pub breach : Coherent S → CoherenceEffect S
  breach c = record { after = record c { breaches = counted c.breaches }; posted = [] }

  -- what is left of serving at an idle entry stands in the node's coherence again
  abbrev pub after_serving : Coherent S → ℕ → Serving S → CoherenceEffect S
  after_serving c page v = record {
    after = record c {
      table = with_entry c.table page
          (entry.Idle v.idle);
      manager = v.manager;
      breaches = v.breaches;
    };
    posted = v.posted;
  }

  -- the word that waited is carried out on these bytes, and those that waited along with it behind it;
  -- then what was put off is served, in order of arrival
  abbrev pub word_unlocked : Coherent S → ℕ → ℕ → IdleState → Option Request → List ℕ → WaitingState
      → CoherenceEffect S
  word_unlocked c from page idle reply bytes s =
      let now = carried_out s.word bytes in
      let rest = all_carried c.more now.bytes in
      after_serving
      (record c {
        table = with_page c.table page rest.bytes;
        locked = None;
        more = [];
        done = Some now.out;
        done_more = rest.outs;
      })
      page
      (put_off_served ops c.me from page rest.bytes idle c.manager c.breaches reply s.put_off)

  -- Where the page was fetched and no word joined, none is carried out; what was put off is served.
  abbrev pub fetch_unlocked : Coherent S → ℕ → ℕ → IdleState → Option Request → List ℕ
      → WaitingState → CoherenceEffect S
  fetch_unlocked c from page idle reply bytes s =
      after_serving
      (record c { table = with_page c.table page bytes; fetched = without_page page c.fetched })
      page
      (put_off_served ops c.me from page bytes idle c.manager c.breaches reply s.put_off)

  abbrev pub unlocked : Coherent S → ℕ → ℕ → IdleState → Option Request → List ℕ → WaitingState
      → CoherenceEffect S
  unlocked c from page idle reply bytes s =
      if waits_at c.locked page then word_unlocked c from page idle reply bytes s
      else fetch_unlocked c from page idle reply bytes s

  -- with the copy, or the page, that was asked for
  abbrev pub unlocked_by_reply : Coherent S → ℕ → ℕ → Request → List ℕ → WaitingState
      → CoherenceEffect S
  unlocked_by_reply c from page kind bytes s =
      unlocked c from page (unlocked_as kind) (reply_as kind s) bytes s

  -- with the last acknowledgement, on the page that is here already
  abbrev pub unlocked_by_last : Coherent S → ℕ → ℕ → WaitingState → CoherenceEffect S
  unlocked_by_last c from page s =
      unlocked c from page owning None (page_at c.table page) s

  -- at a locked entry a message waits until it is unlocked
  abbrev pub put_by : Coherent S → ℕ → Entry → PutOff → CoherenceEffect S
  put_by c page e q = record {
    after = record c { table = with_entry c.table page (with_put_off e q) };
    posted = [];
  }

  -- where no more can be put off at the entry, the message is a breach
  abbrev pub put_aside : Coherent S → ℕ → Entry → PutOff → CoherenceEffect S
  put_aside c page e q = if can_put_off e then put_by c page e q else breach c

  abbrev pub put_aside_at : Coherent S → ℕ → PutOff → CoherenceEffect S
  put_aside_at c page q = put_aside c page (entry_at c.table page) q

  -- a node that waits to write gives up at once the copy that it had
  abbrev pub given_up : Coherent S → ℕ → WaitingState → PutOff → CoherenceEffect S
  given_up c page s q = record {
    after = record c {
      table = with_entry c.table page (entry.AwaitWrite (record { had_copy = false; waiting = s }));
      manager = ops.on_invalidated c.manager page q.origin;
    };
    posted = parcel_to c.me q.origin q.origin q.call (content.InvalAck page) ∷ [];
  }

  -- a node that waits for a copy sends a request on as one that has none does, and remembers that: its
  -- own request went the same way before
  abbrev pub sent_on : Coherent S → ℕ → WaitingState → PutOff → CoherenceEffect S
  sent_on c page s q =
      let v = put_off_served ops c.me q.origin page (page_at c.table page) without c.manager
      c.breaches None (q ∷ []) in
      record {
        after = record c {
          table = with_entry c.table page (entry.AwaitRead (sending s));
          manager = v.manager;
          breaches = v.breaches;
        };
        posted = v.posted;
      }

  -- where requests that find a copy awaited are sent on; an order waits until the copy came
  abbrev pub asked_reader : Coherent S → ℕ → WaitingState → PutOff → CoherenceEffect S
  asked_reader c page s q = if c.sends_on && not (is_order q.kind) then sent_on c page s q
      else put_aside c page (entry.AwaitRead s) q

  -- a request for a copy or for the page, or the order to give a copy up
  abbrev pub asked : Coherent S → ℕ → PutOff → Entry → CoherenceEffect S
  asked c page q (entry.Idle s) = after_serving c page
      (put_off_served ops c.me q.origin page (page_at c.table page) s c.manager c.breaches None
      (q ∷ []))
  asked c page q (entry.AwaitWrite s) = if is_order q.kind then given_up c page s.waiting q
      else put_aside c page (entry.AwaitWrite s) q
  asked c page q (entry.AwaitAcks s) =
      if is_order q.kind then breach c else put_aside c page (entry.AwaitAcks s) q
  asked c page q (entry.AwaitRead s) = asked_reader c page s q

  abbrev pub asked_at : Coherent S → ℕ → PutOff → CoherenceEffect S
  asked_at c page q = asked c page q (entry_at c.table page)

  -- a copy comes for the word that waits to read
  abbrev pub copy_came : Coherent S → ℕ → ℕ → ℕ → List ℕ → Entry → CoherenceEffect S
  copy_came c from call page bytes (entry.AwaitRead s) =
      if s.call == call then unlocked c from page copying (copy_reply s) bytes s else breach c
  copy_came c from call page bytes e = breach c

  abbrev pub copy_came_at : Coherent S → ℕ → ℕ → ℕ → List ℕ → CoherenceEffect S
  copy_came_at c from call page bytes = copy_came c from call page bytes (entry_at c.table page)

  -- the page came, and these other nodes have a copy of it: the word waits until they gave it up
  abbrev pub collected : Coherent S → ℕ → ℕ → Nodes → List ℕ → WaitingState → Coherent S
  collected c from page copies bytes s = record c {
    table = with_page
        (with_entry c.table page
        (entry.AwaitAcks (record { left = copies; waiting = s }))) page bytes;
    manager = ops.on_replied c.manager page true from;
  }

  -- the page itself comes with the nodes that have a copy: they give it up before the word is
  -- carried out
  abbrev pub owned_with : Coherent S → ℕ → ℕ → ℕ → Nodes → List ℕ → WaitingState
      → CoherenceEffect S
  owned_with c from call page copies bytes s =
      if is_none copies
      then unlocked c from page owning (Some request.Write) bytes s
      else record {
        after = collected c from page copies bytes s;
        posted = invalidations c.me page call copies;
      }

  -- the page comes for the word that waits to write, with the set of the others that have a copy
  abbrev pub page_came : Coherent S → ℕ → ℕ → ℕ → Nodes → List ℕ → Entry → CoherenceEffect S
  page_came c from call page copies bytes (entry.AwaitWrite s) =
      if s.waiting.call == call && not (set.contains copies c.me)
      then owned_with c from call page copies bytes s.waiting else breach c
  page_came c from call page copies bytes e = breach c

  abbrev pub page_came_at : Coherent S → ℕ → ℕ → ℕ → Nodes → List ℕ → CoherenceEffect S
  page_came_at c from call page copies bytes =
      page_came c from call page copies bytes (entry_at c.table page)

  -- these nodes have not given their copy up yet
  abbrev pub still_collecting : Coherent S → ℕ → Nodes → WaitingState → Coherent S
  still_collecting c page left s =
      record c {
        table = with_entry c.table page
            (entry.AwaitAcks (record { left = left; waiting = s }));
      }

  -- a copy was given up: with the last one the word that waits to write is carried out
  abbrev pub left_with : Coherent S → ℕ → ℕ → Nodes → WaitingState → CoherenceEffect S
  left_with c from page left s =
      if is_none left
      then unlocked c from page owning None (page_at c.table page) s
      else record { after = still_collecting c page left s; posted = [] }

  -- a node gave its copy up for the word that waits for that
  abbrev pub acknowledged : Coherent S → ℕ → ℕ → ℕ → Entry → CoherenceEffect S
  acknowledged c from call page (entry.AwaitAcks s) =
      if s.waiting.call == call && set.contains s.left from
      then left_with c from page (set.remove s.left from) s.waiting else breach c
  acknowledged c from call page e = breach c

  abbrev pub acknowledged_at : Coherent S → ℕ → ℕ → ℕ → CoherenceEffect S
  acknowledged_at c from call page = acknowledged c from call page (entry_at c.table page)

  -- What a message is about. No node asks itself; an order to give a copy up comes from the node
  -- that is to write; a reply comes to the node that asked. A message of the heap fits none of
  -- these rules.
  abbrev pub handled_as : Coherent S → ℕ → ℕ → ℕ → Content → CoherenceEffect S
  handled_as c from origin call (content.ReadReq page) =
      if origin == c.me then breach c
      else asked_at c page (record { kind = request.Read; origin = origin; call = call })
  handled_as c from origin call (content.WriteReq page) =
      if origin == c.me then breach c
      else asked_at c page (record { kind = request.Write; origin = origin; call = call })
  handled_as c from origin call (content.Inval page) =
      if origin == from
      then asked_at c page (record { kind = request.Invalidate; origin = origin; call = call })
      else breach c
  handled_as c from origin call (content.ReadRep page bytes) =
      if origin == c.me then copy_came_at c from call page bytes else breach c
  handled_as c from origin call (content.WriteRep page copies bytes) =
      if origin == c.me
      then page_came_at c from call page (nodes_with copies) bytes else breach c
  handled_as c from origin call (content.InvalAck page) =
      if origin == c.me then acknowledged_at c from call page else breach c
  handled_as c from origin call m = breach c

  -- what a message that comes from a node does
  unfoldable pub handled : Coherent S → ℕ → Message → CoherenceEffect S
  handled c from m = handled_as c from m.origin m.call m.content
