-- Each row of the table keeps it that who is in a copy set has a copy, or gets one, or has given it
-- up.
use Rattle.std.proofs.Common.{◌≡◌, ◌≢◌, ℕ, Bool, true, false, List, [], map, refl, sym, ap, ◌∙◌, inl, inr, subst}
use Rattle.std.proofs.lemmas.Option.{none-some}
use Rattle.std.specs.FinSet as set
use Rattle.std.proofs.lemmas.Bool.{both_ways}
use Rattle.ivy_model.specs.declared.Config.{Config}
use Rattle.ivy_model.specs.stated.Config.{IsConfig}
use Rattle.ivy_wire.specs.declared.Content.TheVariants as content
use Rattle.ivy_pagetable.specs.declared.Entry.{Entry}
use Rattle.ivy_pagetable.specs.declared.Entry.TheVariants as entry
use Rattle.ivy_pagetable.specs.stated.NodeSets.{nodes_with}
use Rattle.ivy_pagetable.specs.stated.Accesses.{writes}
use Rattle.ivy_pagetable.specs.stated.Entries.{readable, is_owner, copies_of, copying, owning}
use Rattle.ivy_pagetable.specs.stated.Manager.{Ops}
use Rattle.ivy_coherence.specs.stated.PageFaults.{waiting_from}
use Rattle.ivy_coherence.specs.stated.Serving.{invalidations}
use Rattle.ivy_coherence.specs.stated.MessageSteps.{sending}
use Rattle.proof_table.specs.stated.Letters.{Letter, Net, Place, Loose, letter_of}
use Rattle.proof_table.specs.transitions.Letters.{goes_on, installs}
use Rattle.proof_table.specs.stated.Orderly.{reads, In, IsOrderly}
use Rattle.proof_table.specs.transitions.TableSteps.{letter, Comes, Begins, Notice, Row, Claim, IsPreservedBy}
use Rattle.proof_table.proofs.transitions.Both.{both-kept}
use Rattle.proof_table.proofs.transitions.RowsCome.{page_came, page_came_shared, acknowledged, all_acknowledged}
use Rattle.proof_table.proofs.transitions.Members.{without_itself}
use Rattle.proof_table.proofs.transitions.Needs.{page_of}
use Rattle.proof_table.proofs.transitions.Opening.{IsFirst, place_first}
use Rattle.proof_table.proofs.transitions.Parcels.{IsNone, IsOrder, free_step, stay_step, orders_step}
use Rattle.proof_table.proofs.transitions.Places.{served, freed}
use Rattle.proof_table.proofs.transitions.Sole.{first_there, page_under_way}
use Rattle.proof_table.proofs.transitions.NetSteps.{IsStep}
use Rattle.proof_table.specs.stated.Descending.{Descends}
use Rattle.proof_table.proofs.routing.NoBreach.{no_breach}
use Rattle.proof_table.proofs.routing.Old.{installs_letters, taken_letters}
use Rattle.proof_table.proofs.routing.Owed.{IsOwed}
use Rattle.proof_table.proofs.routing.OwedKept.{was_in}
use Rattle.proof_table.proofs.routing.Remaining.{IsOnly, IsNothing, Remain, served_remain, begun_remain, freed_remain, installed_remain, taken_remain}
use Rattle.proof_worlds.proofs.progress.Shares.{HasShare, has, IsOccupied, HasAccurateCopySets, IsShareOf, part_covered, share_stays, step_covered, stays_here}
use Rattle.proof_worlds.proofs.progress.Sharing.{joined_covered, unmoved_covered, still_reads, given_up_covered, asked_covered, put_covered, only_no_share}
use Rattle.proof_worlds.proofs.progress.Giving.{sole_owner, empty_has, held_by, share_covered, give_covered}

installed_covered : (n : Net) (x p : ℕ) (bytes : List ℕ) → HasAccurateCopySets n
    → HasAccurateCopySets (installs n x p bytes)
installed_covered n x p bytes =
    part_covered n (installs n x p bytes) (λ i q. refl) (installs_letters n x p bytes)
    (installed_remain n x p bytes)

-- a copy comes
module _ (c : Config) (n : Net) (k : HasAccurateCopySets n) (bytes : List ℕ)
    (r : Comes c n entry.AwaitRead (λ p. content.ReadRep p bytes)) where
  open r use {node as x, page as p, from, call, state as s, loose, is}

  abbrev copied_net : Net
  copied_net = goes_on n x p (entry.Idle copying) (map (letter_of x p) s.put_off) []

  abbrev copy_letter : Letter
  copy_letter = letter from x x call (content.ReadRep p bytes)

  copied : IsStep n copied_net x p (entry.AwaitRead s) (entry.Idle copying) (freed x p) IsNone
  copied = free_step n x p (entry.AwaitRead s) (entry.Idle copying) s.put_off is refl refl

  copied_remain : Remain n copied_net (IsOnly copy_letter)
  copied_remain =
      freed_remain n x p (entry.AwaitRead s) (entry.Idle copying) (map (letter_of x p) s.put_off) []
      is copy_letter loose refl

  copy_covered : HasAccurateCopySets copied_net
  copy_covered =
      step_covered n copied_net x p (entry.AwaitRead s) (entry.Idle copying) (freed x p) IsNone
      copied (IsOnly copy_letter) copied_remain
      (record {
        about = λ l gone. ap (λ (v : Letter). page_of v.message.content) gone;
        new_about = λ a l new. absurd new;
        entry = λ own. absurd (let f : false ≡ true = own in cc);
        here = stays_here n copied_net x p (entry.AwaitRead s) (entry.Idle copying) (freed x p)
            IsNone copied (IsOnly copy_letter) copied_remain
            (record {
              owner = λ q own. absurd (let f : false ≡ true = own in cc);
              moved = λ a l bits others new. absurd new;
            }) k
            (λ i y w b h held share.
            share_stays n copied_net x p (entry.AwaitRead s) (entry.Idle copying) (freed x p)
            IsNone copied (IsOnly copy_letter) copied_remain i y p
            (λ here q read. absurd (let f : false ≡ true = read in cc))
            (λ l gone is_share. came i y l gone is_share) share);
      }) k
    where
      came : (i y : ℕ) (l : Letter) → l ≡ copy_letter → IsShareOf l i y p
          → HasShare copied_net i y p
      came i y l gone (inl h) =
          has (reads
          (ap (λ v. readable (copied_net.entry v p))
          (sym (sym (ap (λ (v : Letter). v.dest) gone) ∙ h.0)) ∙ ap readable copied.after))
      came i y l gone (inr h) = absurd
          (let f : content.ReadRep p bytes ≡ content.InvalAck p =
          ap (λ (v : Letter). v.message.content) (sym gone) ∙ h.2 in cc)

-- Steps after which the node owns the page: it comes, or an acknowledgement, or orders are posted.
-- Who has a share then had it before.
module _ (c : Config) (n n' : Net) (x p : ℕ) (e z : Entry) (now : Place → Place)
    (New : Place → Letter → Type 0) (step : IsStep n n' x p e z now New) (Gone : Letter → Type 0)
    (remain : Remain n n' Gone) (own : is_owner z ≡ true) (read : readable z ≡ true)
    (after : IsOrderly c n') (k : HasAccurateCopySets n) where
  owning_covered : ((l : Letter) → Gone l → page_of l.message.content ≡ p)
      → ((a : Place) (l : Letter) → New a l → page_of l.message.content ≡ p) → IsOccupied z
      → ((y : ℕ) → set.contains (copies_of z) y ≡ true → HasShare n x y p)
      → ((y : ℕ) (l : Letter) → set.contains (copies_of z) y ≡ true → Gone l
      → IsShareOf l x y p → ⊥) → HasAccurateCopySets n'
  owning_covered about new_about occupied had none =
      step_covered n n' x p e z now New step Gone remain
      (record {
        about = about;
        new_about = new_about;
        entry = occupied;
        here = λ i y w a h held.
            (let sole = sole_owner c n' after x p z step.after own i w a h in
            let there : set.contains (copies_of z) y ≡ true =
            ap (λ t. set.contains t y) (sym sole.1) ∙ held in
            subst (λ v. HasShare n' v y p) (sym sole.0)
            (share_stays n n' x p e z now New step Gone remain x y p
            (λ here q was. has (reads
            (ap (λ v. readable (n'.entry v p)) here ∙ ap readable step.after ∙ read)))
            (λ l gone share. absurd (none y l there gone share)) (had y there)));
      }) k

  -- there are no copies
  sole_covered : ((l : Letter) → Gone l → page_of l.message.content ≡ p)
      → ((a : Place) (l : Letter) → New a l → page_of l.message.content ≡ p) → IsOccupied z
      → copies_of z ≡ set.empty → HasAccurateCopySets n'
  sole_covered about new_about occupied none =
      owning_covered about new_about occupied
      (λ y held. absurd (empty_has (copies_of z) y none held))
      (λ y l held. absurd (empty_has (copies_of z) y none held))

-- the page comes
module _ (c : Config) (n : Net) (order : IsOrderly c n) (k : HasAccurateCopySets n) (bits : ℕ)
    (bytes : List ℕ) (r : Comes c n entry.AwaitWrite (λ p. content.WriteRep p bits bytes)) where
  open r use {node as x, page as p, from, call, state as s, loose, is}

  abbrev page_letter : Letter
  page_letter = letter from x x call (content.WriteRep p bits bytes)

  page_covered : nodes_with bits ≡ set.empty
      → HasAccurateCopySets (goes_on n x p (entry.Idle owning) (map (letter_of x p) s.waiting.put_off) [])
  page_covered none =
      sole_covered c n n' x p (entry.AwaitWrite s) (entry.Idle owning) (freed x p) IsNone
      (free_step n x p (entry.AwaitWrite s) (entry.Idle owning) s.waiting.put_off is refl refl)
      (IsOnly page_letter)
      (freed_remain n x p (entry.AwaitWrite s) (entry.Idle owning)
      (map (letter_of x p) s.waiting.put_off) [] is page_letter loose refl) refl refl
      (page_came c n order bits bytes r none) k
      (λ l gone. ap (λ (v : Letter). page_of v.message.content) gone) (λ a l new. absurd new)
      (λ own unwritten. absurd (let f : true ≡ false = unwritten in cc)) refl
    where
      n' : Net
      n' = goes_on n x p (entry.Idle owning) (map (letter_of x p) s.waiting.put_off) []

  abbrev collecting : Entry
  collecting = entry.AwaitAcks (record { left = nodes_with bits; waiting = s.waiting })

  shared_covered : s.waiting.call ≡ call → nodes_with bits ≢ set.empty
      → HasAccurateCopySets (goes_on n x p collecting [] (invalidations x p call (nodes_with bits)))
  shared_covered same some =
      owning_covered c n (goes_on n x p collecting [] (invalidations x p call (nodes_with bits)))
      x p (entry.AwaitWrite s) collecting served (IsOrder n x p call (nodes_with bits))
      (orders_step n x p (entry.AwaitWrite s) collecting call (nodes_with bits) is (λ j q h. h))
      (IsOnly page_letter)
      (served_remain n x p (entry.AwaitWrite s) collecting []
      (invalidations x p call (nodes_with bits)) is page_letter loose (λ j q h. h)) refl refl
      (page_came_shared c n order bits bytes r same) k
      (λ l gone. ap (λ (v : Letter). page_of v.message.content) gone)
      (λ a l new. ap (λ (v : Letter). page_of v.message.content) new.3) some
      (λ y held. k.members p x y (nodes_with bits) (In (Loose 0))
      (page_under_way c n order (Loose 0) page_letter p bits bytes
      (first_there c n order page_letter [] loose) refl) held)
      (λ y l held gone share. only_no_share page_letter l x y p tt gone share)

-- an acknowledgement comes
module _ (c : Config) (n : Net) (order : IsOrderly c n) (k : HasAccurateCopySets n)
    (r : Comes c n entry.AwaitAcks content.InvalAck) where
  open r use {node as x, page as p, from, call, state as s, loose, is}

  abbrev ack_letter : Letter
  ack_letter = letter from x x call (content.InvalAck p)

  abbrev one_less : Entry
  one_less = entry.AwaitAcks (record { left = set.remove s.left from; waiting = s.waiting })

  -- it is not of another node
  ack_of : (y : ℕ) (l : Letter) → set.contains (set.remove s.left from) y ≡ true → l ≡ ack_letter
      → IsShareOf l x y p → ⊥
  ack_of y l held gone (inl h) =
      (let f : content.InvalAck p ≡ content.ReadRep p h.1.0 =
      ap (λ (v : Letter). v.message.content) (sym gone) ∙ h.1.1 in cc)
  ack_of y l held gone (inr h) = both_ways (set.contains (set.remove s.left from) y) (ap (set.contains (set.remove s.left from))
      (sym (ap (λ (v : Letter). v.source) (sym gone) ∙ h.0)) ∙ without_itself s.left from)
      held

  ack_covered : set.remove s.left from ≢ set.empty → HasAccurateCopySets (goes_on n x p one_less [] [])
  ack_covered more =
      owning_covered c n (goes_on n x p one_less [] []) x p (entry.AwaitAcks s) one_less served
      IsNone (stay_step n x p (entry.AwaitAcks s) one_less is (λ j q h. h)) (IsOnly ack_letter)
      (served_remain n x p (entry.AwaitAcks s) one_less [] [] is ack_letter loose (λ j q h. h)) refl
      refl (acknowledged c n order r) k
      (λ l gone. ap (λ (v : Letter). page_of v.message.content) gone) (λ a l new. absurd new) more
      (λ y held. held_by n k x p (entry.AwaitAcks s) is refl y
      (was_in s.left from y held)) ack_of

  last_covered : set.remove s.left from ≡ set.empty
      → HasAccurateCopySets (goes_on n x p (entry.Idle owning) (map (letter_of x p) s.waiting.put_off) [])
  last_covered last =
      sole_covered c n n' x p (entry.AwaitAcks s) (entry.Idle owning) (freed x p) IsNone
      (free_step n x p (entry.AwaitAcks s) (entry.Idle owning) s.waiting.put_off is refl refl)
      (IsOnly ack_letter)
      (freed_remain n x p (entry.AwaitAcks s) (entry.Idle owning)
      (map (letter_of x p) s.waiting.put_off) [] is ack_letter loose refl) refl refl
      (all_acknowledged c n order r last) k
      (λ l gone. ap (λ (v : Letter). page_of v.message.content) gone) (λ a l new. absurd new)
      (λ own unwritten. absurd (let f : true ≡ false = unwritten in cc)) refl
    where
      n' : Net
      n' = goes_on n x p (entry.Idle owning) (map (letter_of x p) s.waiting.put_off) []

-- the owner begins to collect acknowledgements
module _ (c : Config) (n : Net) (order : IsOrderly c n) (k : HasAccurateCopySets n) (r : Begins c n)
    (owner : r.state.owner ≡ true) (unwritten : writes r.state.access ≡ false) where
  open r use {node as x, page as p, call, word, state as s, loose, is}

  abbrev begun : Entry
  begun = entry.AwaitAcks (record { left = s.copies; waiting = waiting_from word call })

  orders_covered : IsOrderly c (goes_on n x p begun [] (invalidations x p call s.copies))
      → HasAccurateCopySets (goes_on n x p begun [] (invalidations x p call s.copies))
  orders_covered after =
      owning_covered c n (goes_on n x p begun [] (invalidations x p call s.copies)) x p
      (entry.Idle s) begun served (IsOrder n x p call s.copies)
      (orders_step n x p (entry.Idle s) begun call s.copies is
      (λ j q h. absurd (none-some q h))) IsNothing
      (begun_remain n x p (entry.Idle s) begun [] (invalidations x p call s.copies) is loose
      (λ j q h. absurd (none-some q h))) refl refl after k (λ l gone. absurd gone)
      (λ a l new. ap (λ (v : Letter). page_of v.message.content) new.3)
      ((subst IsOccupied is (k.occupied x p)) owner unwritten)
      (held_by n k x p (entry.Idle s) is owner) (λ y l held gone. absurd gone)

module _ (c : Config) (config : IsConfig c) where
  covered_by : {sends : Bool} {n : Net} {f : ℕ → List ℕ} {notice : Notice} {n' : Net} {f' : ℕ → List ℕ}
      → Row sends c n f notice n' f' → IsOrderly c n → Descends n → IsOwed n → IsOrderly c n'
      → HasAccurateCopySets n → HasAccurateCopySets n'
  covered_by (Row.carries r) order down owed after k = installed_covered _ r.node r.page _ k
  covered_by {n = n} (Row.takes r) order down owed after k =
      part_covered n _ (λ i q. refl) (taken_letters n r.source r.dest r.message r.first)
      (taken_remain n r.source r.dest r.message r.first r.none) k
  covered_by (Row.drops r) order down owed after k =
      absurd (no_breach _ down c config order r.node r.old r.rest r.here r.loose r.dest r.misfits)
  covered_by (Row.shares r owner low) order down owed after k =
      share_covered c _ order owed.counted k r owner after
  covered_by (Row.gives r owner low) order down owed after k =
      give_covered c config _ order k r owner low
  covered_by {n = n} (Row.sends_on_read r hop plain away) order down owed after k =
      unmoved_covered c _ k r (entry.Idle r.state) hop (content.ReadReq r.page) (λ j q h. h)
      (λ j q h. h) refl refl (subst IsOccupied r.is (k.occupied r.node r.page)) (λ bits bytes h. cc)
      (λ own. (own, refl)) tt
      (λ i w b h read. still_reads c n k r (entry.Idle r.state) hop (content.ReadReq r.page)
      (λ j q h. h) (λ j q h. h) i read)
  covered_by {n = n} (Row.sends_on_write r hop plain away) order down owed after k =
      unmoved_covered c _ k r (entry.Idle r.state) hop (content.WriteReq r.page) (λ j q h. h)
      (λ j q h. h) refl refl (subst IsOccupied r.is (k.occupied r.node r.page)) (λ bits bytes h. cc)
      (λ own. (own, refl)) tt
      (λ i w b h read. still_reads c n k r (entry.Idle r.state) hop (content.WriteReq r.page)
      (λ j q h. h) (λ j q h. h) i read)
  covered_by (Row.reader_sends_on_read r hop sends away) order down owed after k =
      unmoved_covered c _ k r (entry.AwaitRead (sending r.state)) hop (content.ReadReq r.page)
      (λ j q h. h) (λ j q h. h) refl refl tt
      (λ bits bytes h. cc) (λ own. absurd (let f : false ≡ true = own in cc)) tt
      (λ i w b h read. absurd (let f : false ≡ true = read in cc))
  covered_by (Row.reader_sends_on_write r hop sends away) order down owed after k =
      unmoved_covered c _ k r (entry.AwaitRead (sending r.state)) hop (content.WriteReq r.page)
      (λ j q h. h) (λ j q h. h) refl refl tt
      (λ bits bytes h. cc) (λ own. absurd (let f : false ≡ true = own in cc)) tt
      (λ i w b h read. absurd (let f : false ≡ true = read in cc))
  covered_by (Row.ends_copy r sender plain) order down owed after k =
      given_up_covered c _ order owed.counted k r _ (λ j q h. h) (λ j q h. h)
      (λ own. absurd (let f : false ≡ true = own in cc)) refl
  covered_by (Row.gives_up r sender) order down owed after k =
      given_up_covered c _ order owed.counted k r _ (λ j q h. h) (λ j q h. h) tt refl
  covered_by (Row.puts_off r kept) order down owed after k = put_covered c _ k r
  covered_by (Row.copy_comes bytes r same quiet) order down owed after k =
      installed_covered _ r.node r.page bytes (copy_covered c _ k bytes r)
  covered_by (Row.copy_comes_late bytes r same sent) order down owed after k =
      installed_covered _ r.node r.page bytes (copy_covered c _ k bytes r)
  covered_by (Row.page_comes copies bytes r same none) order down owed after k =
      installed_covered _ r.node r.page bytes (page_covered c _ order k copies bytes r none)
  covered_by (Row.page_comes_shared copies bytes r same some out low) order down owed after k =
      installed_covered _ r.node r.page bytes (shared_covered c _ order k copies bytes r same some)
  covered_by (Row.acknowledges r same left more) order down owed after k =
      ack_covered c _ order k r more
  covered_by (Row.acknowledges_last r same left last) order down owed after k =
      last_covered c _ order k r last
  covered_by (Row.asks_copy r hop plain unread away) order down owed after k =
      asked_covered c _ k r _ hop (content.ReadReq r.page) refl refl tt (λ bits bytes h. cc) refl
      (λ read. absurd (both_ways (readable (entry.Idle r.state)) unread read))
  covered_by (Row.asks_page r hop plain away) order down owed after k =
      asked_covered c _ k r _ hop (content.WriteReq r.page) refl refl tt (λ bits bytes h. cc) refl
      (λ read. read)
  covered_by (Row.ends_copies r owner reader unwritten low out) order down owed after k =
      orders_covered c _ order k r owner unwritten after
  covered_by (Row.joins r) order down owed after k = joined_covered c _ k r

-- beside any claim under which nets are orderly, requests go down and whoever waits has its message
pub covered-kept : {S : Type 0} {sends : Bool} (ops : Ops S) (c : Config) → IsConfig c → (Q : Claim S)
    → IsPreservedBy sends ops c Q
    → ((m : ℕ → S) (n : Net) (f : ℕ → List ℕ) → Q m n f → IsOrderly c n × Descends n × IsOwed n)
    → IsPreservedBy sends ops c (λ m n f. Q m n f × HasAccurateCopySets n)
covered-kept ops c config Q kept known = both-kept kept (record {
  by = λ row of before after k.
      (let b = known _ _ _ before in
      covered_by c config row b.0 b.1 b.2 (known _ _ _ after).0 k);
})

-- in the first net nobody but the owners has anything
pub first_covered : (n : Net) → IsFirst n → HasAccurateCopySets n
first_covered n first = record {
  members = λ p i y s a h held. absurd (empty_has s y (place_first n first p i s a h).2 held);
  occupied = λ i p. elim (first.entries i p) [
    | inl y ↦
        subst IsOccupied (sym y.1)
        (λ own unwritten. absurd (let f : true ≡ false = unwritten in cc))
    | inr y ↦ subst IsOccupied (sym y) (λ own. absurd (let f : false ≡ true = own in cc))
  ];
}
