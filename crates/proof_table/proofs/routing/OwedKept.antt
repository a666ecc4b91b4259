-- Whoever waits has its message, once more after each row. That no message is dropped rests on
-- descent.
use Rattle.std.proofs.Common.{◌≡◌, ◌<◌, ◌≤◌, ℕ, Bool, true, List, [], ◌∷◌, map, refl, sym, ap, ◌∙◌, subst, inl, inr, arith}
use Rattle.std.proofs.lemmas.Bool.{cases_Bool, both_ways}
use Rattle.std.proofs.lemmas.Option.{none-some}
use Rattle.std.specs.FinSet as set
use Rattle.ivy_model.specs.declared.Config.{Config}
use Rattle.ivy_model.specs.stated.Config.{IsConfig}
use Rattle.ivy_model.specs.stated.Limits.{most_nodes}
use Rattle.ivy_wire.specs.stated.Data.{Content, Parcel}
use Rattle.ivy_wire.specs.stated.Posts.{parcel_to}
use Rattle.ivy_pagetable.specs.declared.Entry.{Entry}
use Rattle.ivy_pagetable.specs.declared.Entry.TheVariants as entry
use Rattle.ivy_pagetable.specs.declared.PutOff.{PutOff}
use Rattle.ivy_pagetable.specs.declared.Request.{Request}
use Rattle.ivy_pagetable.specs.declared.Request.TheVariants as request
use Rattle.ivy_pagetable.specs.stated.NodeSets.{Nodes, IsBelow, nodes_with}
use Rattle.ivy_pagetable.specs.stated.States.{IdleState, WaitingState, AwaitAcksState}
use Rattle.ivy_pagetable.specs.stated.Entries.{put_offs, can_put_off, with_put_off, copying, owning}
use Rattle.ivy_pagetable.specs.stated.Manager.{Ops}
use Rattle.ivy_coherence.specs.stated.Serving.{invalidations}
use Rattle.ivy_coherence.specs.stated.PageFaults.{waiting_from}
use Rattle.proof_table.specs.stated.Letters.{Letter, Net, content_of, letter_of}
use Rattle.proof_table.specs.transitions.Letters.{goes_on}
use Rattle.proof_table.specs.stated.Orderly.{Key, Order, key_of, IsOrderly}
use Rattle.proof_table.specs.transitions.TableSteps.{letter, Served, Comes, Begins, Joins, Notice, Row, Claim, IsPreservedBy}
use Rattle.proof_table.proofs.transitions.Both.{both-kept}
use Rattle.proof_table.proofs.transitions.Members.{without_itself, without_any}
use Rattle.proof_table.proofs.transitions.RowsJoined.{joined_stays}
use Rattle.ivy_coherence.specs.stated.Fetching.{joined_by}
use Rattle.ivy_pagetable.specs.declared.Word.{Word}
use Rattle.proof_table.proofs.transitions.Needs.{key_origin, key_page}
use Rattle.proof_table.specs.stated.Descending.{Descends}
use Rattle.proof_table.proofs.routing.NoBreach.{no_breach}
use Rattle.proof_table.proofs.routing.Old.{put_off_stays, put_off_there}
use Rattle.proof_table.proofs.routing.Remaining.{IsOnly, IsNothing, StaysPutOff, HasKey, served_remain, begun_remain, freed_remain, one_there, orders_there}
use Rattle.proof_table.proofs.routing.Owed.{Wants, IsOwed, put_wants, installed_owed, taken_owed, stays_owed, comes_owed}

-- a word that joins waits for what was awaited before
joined_wants : (e : Entry) (w : Word) (node page : ℕ) (k : Key) → Wants (joined_by e w) node page k
    → Wants e node page k
joined_wants (entry.Idle s) w node page k h = h
joined_wants (entry.AwaitRead s) w node page k h = h
joined_wants (entry.AwaitWrite s) w node page k h = h
joined_wants (entry.AwaitAcks s) w node page k h = h

module _ (c : Config) (n : Net) (o : IsOwed n) where
  -- a letter is served, and one with its key is posted
  answered : {T : Type 0} {at : T → Entry} {ask : ℕ → Content} (r : Served c n at ask) (z : Entry)
      (dest : ℕ) (body : Content)
      → key_of (letter r.node dest r.origin r.call body)
      ≡ key_of (letter r.from r.node r.origin r.call (ask r.page))
      → StaysPutOff (at r.state) z
      → ((k : Key) → Wants z r.node r.page k → Wants (at r.state) r.node r.page k)
      → IsOwed (goes_on n r.node r.page z r.rest (parcel_to r.node dest r.origin r.call body ∷ []))
  answered {at = at} {ask = ask} r z dest body same still mine =
      stays_owed n x p (at s) z rest posts is o (IsOnly old)
      (served_remain n x p (at s) z rest posts is old loose still)
      (λ k l gone key. subst (HasKey (goes_on n x p z rest posts))
      (same ∙ ap key_of (sym gone) ∙ key)
      (one_there n x p z rest dest origin call body o.counted))
      (λ k w. inl (mine k w))
    where
      open r use {node as x, page as p, from, origin, call, state as s, rest, loose, is}

      old : Letter
      old = letter from x origin call (ask p)

      posts : List Parcel
      posts = parcel_to x dest origin call body ∷ []

  -- a word begins to wait, and asks
  asked : (r : Begins c n) (z : Entry) (dest : ℕ) (body : Content)
      → StaysPutOff (entry.Idle r.state) z
      → ((k : Key) → Wants z r.node r.page k → key_of (letter r.node dest r.node r.call body) ≡ k)
      → IsOwed (goes_on n r.node r.page z [] (parcel_to r.node dest r.node r.call body ∷ []))
  asked r z dest body still mine =
      stays_owed n x p (entry.Idle s) z [] posts is o IsNothing
      (begun_remain n x p (entry.Idle s) z [] posts is loose still) (λ k l gone key. absurd gone)
      (λ k w. inr
      (subst (HasKey (goes_on n x p z [] posts)) (mine k w)
      (one_there n x p z [] dest x call body o.counted)))
    where
      open r use {node as x, page as p, call, state as s, loose, is}

      posts : List Parcel
      posts = parcel_to x dest x call body ∷ []

  -- a word joins the fetch of its page
  joined : (r : Joins c n) → IsOwed (goes_on n r.node r.page (joined_by r.before r.word) [] [])
  joined r =
      stays_owed n x p e z [] [] is o IsNothing
      (begun_remain n x p e z [] [] is loose (joined_stays e w)) (λ k l gone key. absurd gone)
      (λ k wants. inl (joined_wants e w x p k wants))
    where
      open r use {node as x, page as p, word as w, before as e, loose, is}

      z : Entry
      z = joined_by e w

  -- what the node waited for comes, and it waits for nothing more: what was put off is loose
  freed : {T : Type 0} {at : T → Entry} {bring : ℕ → Content} (r : Comes c n at bring)
      (s : IdleState)
      → key_origin (key_of (letter r.from r.node r.node r.call (bring r.page))) ≡ r.node
      → key_page (key_of (letter r.from r.node r.node r.call (bring r.page))) ≡ r.page
      → IsOwed
      (goes_on n r.node r.page (entry.Idle s)
      (map (letter_of r.node r.page) (put_offs (at r.state))) [])
  freed {at = at} {bring = bring} r s origin page =
      comes_owed n x p (at state) (entry.Idle s) (map (letter_of x p) (put_offs (at state))) [] is o
      (IsOnly old)
      (freed_remain n x p (at state) (entry.Idle s) (map (letter_of x p) (put_offs (at state))) []
      is old loose refl)
      (λ l gone. (
        ap (λ v. key_origin (key_of v)) gone ∙ origin,
        ap (λ v. key_page (key_of v)) gone ∙ page,
      )) (λ k w. absurd w)
    where
      open r use {node as x, page as p, from, call, state, loose, is}

      old : Letter
      old = letter from x x call (bring p)

-- there are few nodes
few : (c : Config) → IsConfig c → (nodes : Nodes) → IsBelow c.nodes nodes → (target : ℕ)
    → set.contains nodes target ≡ true → target < most_nodes
few c config nodes low target has =
    (let a : target < c.nodes = low target has in
    let b : c.nodes ≤ most_nodes = config.nodes_to in omega (arith, a, b))

put_key : (from x p : ℕ) (r : PutOff) (kind : Request)
    → key_of (letter r.origin x r.origin r.call (content_of kind p))
    ≡ key_of (letter from x r.origin r.call (content_of kind p))
put_key from x p r request.Read = refl
put_key from x p r request.Write = refl
put_key from x p r request.Invalidate = refl

-- a message is put off
module _ (n : Net) (x p from : ℕ) (r : PutOff) (e : Entry) (rest : List Letter)
    (is : n.entry x p ≡ e) (room : can_put_off e ≡ true)
    (loose : n.loose ≡ letter from x r.origin r.call (content_of r.kind p) ∷ rest) (o : IsOwed n)
  where
    abbrev with_it : Net
    with_it = goes_on n x p (with_put_off e r) rest []

    put_here : HasKey with_it (key_of (letter_of x p r))
    put_here =
        let f = put_off_there n x p r e rest room in
        record { at = f.0; letter = letter_of x p r; there = f.1; key = refl }

    put_owed : IsOwed with_it
    put_owed =
        stays_owed n x p e (with_put_off e r) rest [] is o
        (IsOnly (letter from x r.origin r.call (content_of r.kind p)))
        (served_remain n x p e (with_put_off e r) rest [] is
        (letter from x r.origin r.call (content_of r.kind p)) loose (put_off_stays e r room))
        (λ k l gone key. subst (HasKey with_it)
        (put_key from x p r r.kind ∙ ap key_of (sym gone) ∙ key) put_here)
        (λ k w. inl (put_wants e r x p k w))

-- who is in a set without a node is in the set
pub was_in : (s : Nodes) (node q : ℕ) → set.contains (set.remove s node) q ≡ true
    → set.contains s q ≡ true
was_in s node q h =
    elim (cases_Bool (set.contains s q)) [
      | inl is ↦ is
      | inr isnt ↦
          absurd (both_ways (set.contains (set.remove s node) q) (without_any s node q isnt) h)
    ]

-- the order to the node that is left out is another one
other_order : (x p from target : ℕ) (k : Key) → Order x from p ≡ k → k ≡ Order x target p
    → from ≡ target
other_order x p from target k a b = (let f : Order x from p ≡ Order x target p = a ∙ b in cc)

-- acknowledgements are collected
module _ (n : Net) (x p call : ℕ) (e : Entry) (nodes : Nodes) (waiting : WaitingState)
    (is : n.entry x p ≡ e) (o : IsOwed n)
    (low : (target : ℕ) → set.contains nodes target ≡ true → target < most_nodes)
    (still : StaysPutOff e (entry.AwaitAcks (record { left = nodes; waiting = waiting }))) where
  abbrev collecting : Entry
  collecting = entry.AwaitAcks (record { left = nodes; waiting = waiting })

  abbrev ordering : Net
  ordering = goes_on n x p collecting [] (invalidations x p call nodes)

  orders_are : (k : Key) → Wants collecting x p k → HasKey ordering k
  orders_are k w =
      subst (HasKey ordering) (sym w.2)
      (orders_there n x p collecting [] call nodes w.0 o.counted (low w.0 w.1) w.1)

  -- the page came
  page_owed : (old : Letter) → n.loose ≡ old ∷ [] → key_origin (key_of old) ≡ x
      → key_page (key_of old) ≡ p → IsOwed ordering
  page_owed old loose origin page =
      comes_owed n x p e collecting [] (invalidations x p call nodes) is o (IsOnly old)
      (served_remain n x p e collecting [] (invalidations x p call nodes) is old loose still)
      (λ l gone. (
        ap (λ v. key_origin (key_of v)) gone ∙ origin,
        ap (λ v. key_page (key_of v)) gone ∙ page,
      )) (λ k w. inr (orders_are k w))

  -- the owner begins to
  owner_owed : n.loose ≡ [] → IsOwed ordering
  owner_owed none = stays_owed n x p e collecting [] (invalidations x p call nodes) is o IsNothing
      (begun_remain n x p e collecting [] (invalidations x p call nodes) is none still)
      (λ k l gone key. absurd gone) (λ k w. inr (orders_are k w))

-- an acknowledgement comes
module _ (n : Net) (x p from : ℕ) (s : AwaitAcksState) (is : n.entry x p ≡ entry.AwaitAcks s)
    (o : IsOwed n) (old : Letter) (loose : n.loose ≡ old ∷ []) (key : key_of old ≡ Order x from p)
  where
    abbrev one_less : Entry
    one_less = entry.AwaitAcks (record { left = set.remove s.left from; waiting = s.waiting })

    ack_owed : IsOwed (goes_on n x p one_less [] [])
    ack_owed =
        comes_owed n x p (entry.AwaitAcks s) one_less [] [] is o (IsOnly old)
        (served_remain n x p (entry.AwaitAcks s) one_less [] [] is old loose (λ j r h. h))
        (λ l gone. (
          ap (λ v. key_origin (key_of v)) gone ∙ ap key_origin key,
          ap (λ v. key_page (key_of v)) gone ∙ ap key_page key,
        ))
        (λ k w. inl (
          (w.0, was_in s.left from w.0 w.1, w.2),
          λ l gone same. both_ways (set.contains (set.remove s.left from) w.0) (ap (λ v. set.contains (set.remove s.left from) v)
              (sym (other_order x p from w.0 k (sym key ∙ ap key_of (sym gone) ∙ same) w.2))
              ∙ without_itself s.left from)
              w.1,
        ))

module _ (c : Config) (config : IsConfig c) where
  owed_by : {sends : Bool} {n : Net} {f : ℕ → List ℕ} {notice : Notice} {n' : Net} {f' : ℕ → List ℕ}
      → Row sends c n f notice n' f'
      → IsOrderly c n → Descends n → IsOwed n → IsOwed n'
  owed_by (Row.carries r) order down o = installed_owed _ r.node r.page _ o
  owed_by (Row.takes r) order down o = taken_owed _ r.source r.dest r.message r.first r.none o
  owed_by (Row.drops r) order down o =
      absurd (no_breach _ down c config order r.node r.old r.rest r.here r.loose r.dest r.misfits)
  owed_by (Row.shares r owner low) order down o =
      answered c _ o r _ _ _ refl (λ j q h. h) (λ k w. w)
  owed_by (Row.gives r owner low) order down o = answered c _ o r _ _ _ refl (λ j q h. h) (λ k w. w)
  owed_by (Row.sends_on_read r hop plain away) order down o =
      answered c _ o r _ _ _ refl (λ j q h. h) (λ k w. w)
  owed_by (Row.sends_on_write r hop plain away) order down o =
      answered c _ o r _ _ _ refl (λ j q h. h) (λ k w. w)
  owed_by (Row.reader_sends_on_read r hop sends away) order down o =
      answered c _ o r _ _ _ refl (λ j q h. h) (λ k w. w)
  owed_by (Row.reader_sends_on_write r hop sends away) order down o =
      answered c _ o r _ _ _ refl (λ j q h. h) (λ k w. w)
  owed_by (Row.ends_copy r sender plain) order down o =
      answered c _ o r _ _ _ refl (λ j q h. h) (λ k w. w)
  owed_by (Row.gives_up r sender) order down o =
      answered c _ o r _ _ _ refl (λ j q h. h) (λ k w. w)
  owed_by (Row.puts_off r kept) order down o =
      put_owed _ r.node r.page r.from r.later r.before r.rest r.is r.room r.loose o
  owed_by (Row.copy_comes bytes r same quiet) order down o =
      installed_owed _ r.node r.page bytes (freed c _ o r copying refl refl)
  owed_by (Row.copy_comes_late bytes r same sent) order down o =
      installed_owed _ r.node r.page bytes (freed c _ o r copying refl refl)
  owed_by (Row.page_comes copies bytes r same none) order down o =
      installed_owed _ r.node r.page bytes (freed c _ o r owning refl refl)
  owed_by (Row.page_comes_shared copies bytes r same some out low) order down o =
      installed_owed _ r.node r.page bytes
      (page_owed _ r.node r.page r.call (entry.AwaitWrite r.state) (nodes_with copies)
      r.state.waiting r.is o
      (few c config (nodes_with copies) low) (λ j q h. h) _ r.loose refl refl)
  owed_by (Row.acknowledges r same left more) order down o =
      ack_owed _ r.node r.page r.from r.state r.is o _ r.loose refl
  owed_by (Row.acknowledges_last r same left last) order down o = freed c _ o r owning refl refl
  owed_by (Row.asks_copy r hop plain unread away) order down o =
      asked c _ o r _ _ _ (λ j q h. absurd (none-some q h)) (λ k w. sym w)
  owed_by (Row.asks_page r hop plain away) order down o =
      asked c _ o r _ _ _ (λ j q h. absurd (none-some q h)) (λ k w. sym w)
  owed_by (Row.ends_copies r owner reader unwritten low out) order down o =
      owner_owed _ r.node r.page r.call (entry.Idle r.state) r.state.copies
      (waiting_from r.word r.call) r.is o
      (few c config r.state.copies low) (λ j q h. absurd (none-some q h)) r.loose
  owed_by (Row.joins r) order down o = joined c _ o r

-- beside any claim under which nets are orderly and requests go down
pub owed-kept : {S : Type 0} {sends : Bool} (ops : Ops S) (c : Config) → IsConfig c → (Q : Claim S)
    → IsPreservedBy sends ops c Q
    → ((m : ℕ → S) (n : Net) (f : ℕ → List ℕ) → Q m n f → IsOrderly c n × Descends n)
    → IsPreservedBy sends ops c (λ m n f. Q m n f × IsOwed n)
owed-kept ops c config Q kept known = both-kept kept (record {
  by = λ row of before after owed.
      (let k = known _ _ _ before in owed_by c config row k.0 k.1 owed);
})
