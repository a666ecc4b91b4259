-- Steps at which who is in a copy set stays covered: a letter is answered, put off, or asks.
use Rattle.std.proofs.Common.{◌≡◌, ℕ, true, false, List, [], ◌∷◌, length, slice_get, refl, sym, ap, ◌∙◌, inl, inr, subst}
use Rattle.std.proofs.lemmas.Option.{none-some}
use Rattle.std.specs.FinSet as set
use Rattle.ivy_model.specs.declared.Config.{Config}
use Rattle.ivy_wire.specs.declared.Content.TheVariants as content
use Rattle.ivy_wire.specs.stated.Data.{Content}
use Rattle.ivy_pagetable.specs.declared.Entry.{Entry}
use Rattle.ivy_pagetable.specs.declared.Entry.TheVariants as entry
use Rattle.ivy_pagetable.specs.declared.PutOff.{PutOff}
use Rattle.ivy_pagetable.specs.declared.Request.{Request}
use Rattle.ivy_pagetable.specs.declared.Request.TheVariants as request
use Rattle.ivy_pagetable.specs.stated.NodeSets.{Nodes}
use Rattle.ivy_pagetable.specs.stated.Entries.{readable, is_owner, copies_of, put_offs, with_put_off}
use Rattle.ivy_wire.specs.stated.Posts.{parcel_to}
use Rattle.proof_table.specs.stated.Letters.{Letter, Net, Underway, Aside, content_of, letter_of}
use Rattle.proof_table.specs.transitions.Letters.{goes_on}
use Rattle.proof_table.specs.stated.Orderly.{reads, OwnerPlace, At, IsOwned, IsExpectedAs, IsOrderly}
use Rattle.proof_table.specs.transitions.TableSteps.{letter, Served, Begins, Joins, PutsOff}
use Rattle.proof_table.proofs.transitions.Needs.{page_of, collects_owner}
use Rattle.proof_table.proofs.transitions.Places.{served}
use Rattle.proof_table.proofs.transitions.Parcels.{IsThe, IsNone, answer_step, ask_step, stay_step}
use Rattle.proof_table.proofs.transitions.RowsJoined.{joined_still, joined_kept, joined_stays}
use Rattle.ivy_coherence.specs.stated.Fetching.{joined_by}
use Rattle.ivy_pagetable.specs.declared.Word.{Word}
use Rattle.proof_table.proofs.transitions.RowsAsked.{put_same, put_no_page}
use Rattle.proof_table.proofs.transitions.Sole.{first_fits, owned_here}
use Rattle.proof_table.proofs.transitions.NetSteps.{IsStep}
use Rattle.proof_table.proofs.routing.Old.{put_off_stays, put_off_step}
use Rattle.proof_table.proofs.routing.Remaining.{IsThere, IsOnly, IsNothing, IsCounted, Remain, StaysPutOff, served_remain, begun_remain, letter_there}
use Rattle.proof_worlds.proofs.progress.Shares.{HasShare, has, gave, IsOccupied, HasAccurateCopySets, IsShareOf, share_stays, step_covered, stays_here}

-- it is no copy, and no acknowledgement that one was given up
abbrev pub IsNoShare : Content → Type 0
IsNoShare (content.ReadReq page) = Unit {0}
IsNoShare (content.WriteReq page) = Unit {0}
IsNoShare (content.ReadRep page bytes) = ⊥
IsNoShare (content.WriteRep page copies bytes) = Unit {0}
IsNoShare (content.Inval page) = Unit {0}
IsNoShare (content.InvalAck page) = ⊥
IsNoShare (content.AllocReq size) = Unit {0}
IsNoShare (content.AllocRep code addr) = Unit {0}
IsNoShare (content.FreeReq addr) = Unit {0}
IsNoShare (content.FreeRep code) = Unit {0}

pub no_share : (l : Letter) (i y q : ℕ) → IsNoShare l.message.content → IsShareOf l i y q → ⊥
no_share l i y q none (inl h) = subst IsNoShare h.1.1 none
no_share l i y q none (inr h) = subst IsNoShare h.2 none

pub only_no_share : (old l : Letter) (i y q : ℕ) → IsNoShare old.message.content → IsOnly old l
    → IsShareOf l i y q → ⊥
only_no_share old l i y q none gone =
    no_share l i y q (subst (λ (v : Letter). IsNoShare v.message.content) (sym gone) none)

-- it does not bring a page
abbrev pub IsNoPage : Content → ℕ → Type 0
IsNoPage body page = (bits : ℕ) (bytes : List ℕ) → body ≡ content.WriteRep page bits bytes → ⊥

-- An order to give a copy up comes from the owner: whoever counts the node as one with a copy.
pub order_owner : (c : Config) (n : Net) (order : IsOrderly c n) (l : Letter) (rest : List Letter)
    (p : ℕ) → n.loose ≡ l ∷ rest → l.message.content ≡ content.Inval p
    → (i : ℕ) (s : Nodes) (b : OwnerPlace) → IsOwned n p i s b → l.message.origin ≡ i
order_owner c n order l rest p loose is i s b h =
    let fit : IsExpectedAs c n l (content.Inval p) =
    subst (IsExpectedAs c n l) is (first_fits c n order l rest loose) in
    let own : is_owner (n.entry l.message.origin p) ≡ true =
    collects_owner (n.entry l.message.origin p) l.message.call l.dest fit.2 in
    let same : b ≡ At l.message.origin =
    order.one_owner p i l.message.origin s (copies_of (n.entry l.message.origin p)) b
    (At l.message.origin) h (owned_here c n order l.message.origin p own) in
    let at : IsOwned n p i s (At l.message.origin) = subst (IsOwned n p i s) same h in
    at.0

-- a letter is served, and one is posted: neither the owner of the page nor its copies change
module _ (c : Config) (n : Net) (k : HasAccurateCopySets n) {T : Type 0} {at : T → Entry}
    {ask : ℕ → Content} (r : Served c n at ask) (z : Entry) (dest : ℕ) (body : Content)
    (fewer : StaysPutOff z (at r.state)) (still : StaysPutOff (at r.state) z) where
  open r use {node as x, page as p, from, origin, call, state as s, rest, loose, is}

  abbrev answered_net : Net
  answered_net = goes_on n x p z rest (parcel_to x dest origin call body ∷ [])

  abbrev asking : Letter
  asking = letter from x origin call (ask p)

  abbrev pub answer : IsStep n answered_net x p (at s) z served
      (IsThe (Underway x dest (length (n.posted x dest))) (letter x dest origin call body))
  answer = answer_step n x p (at s) z asking rest dest origin call body is loose fewer

  abbrev pub others_remain : Remain n answered_net (IsOnly asking)
  others_remain =
      served_remain n x p (at s) z rest (parcel_to x dest origin call body ∷ []) is asking loose
      still

  pub answer_covered : page_of (ask p) ≡ p → page_of body ≡ p → IsOccupied z
      → ((i y : ℕ) (w : Nodes) (a : OwnerPlace) → IsOwned answered_net p i w a
      → set.contains w y ≡ true → HasShare answered_net i y p) → HasAccurateCopySets answered_net
  answer_covered about new_about occupied here =
      step_covered n answered_net x p (at s) z served
      (IsThe (Underway x dest (length (n.posted x dest))) (letter x dest origin call body)) answer
      (IsOnly asking) others_remain
      (record {
        about = λ l gone. ap (λ (v : Letter). page_of v.message.content) gone ∙ about;
        new_about = λ a l new. ap (λ (v : Letter). page_of v.message.content) new.1 ∙ new_about;
        entry = occupied;
        here = here;
      }) k

  pub unmoved_covered : page_of (ask p) ≡ p → page_of body ≡ p → IsOccupied z → IsNoPage body p
      → (is_owner z ≡ true → (is_owner (at s) ≡ true) × (copies_of z ≡ copies_of (at s)))
      → IsNoShare (ask p)
      → ((i : ℕ) (w : Nodes) (b : OwnerPlace) → IsOwned n p i w b → readable (at s) ≡ true
      → HasShare answered_net i x p) → HasAccurateCopySets answered_net
  unmoved_covered about new_about occupied page same none reader =
      answer_covered about new_about occupied
      (stays_here n answered_net x p (at s) z served
      (IsThe (Underway x dest (length (n.posted x dest))) (letter x dest origin call body)) answer
      (IsOnly asking) others_remain
      (record {
        owner = λ q h. same h;
        moved =
            λ a l bits bytes new brings. page bits bytes
            (ap (λ (v : Letter). v.message.content) (sym new.1) ∙ brings);
      }) k
      (λ i y w b h held share.
      share_stays n answered_net x p (at s) z served
      (IsThe (Underway x dest (length (n.posted x dest))) (letter x dest origin call body)) answer
      (IsOnly asking) others_remain i y p
      (λ here q read. subst (λ v. HasShare answered_net i v p) (sym here) (reader i w b h read))
      (λ l gone is_share. absurd (only_no_share asking l i y p none gone is_share)) share))

  -- the node still reads the page
  pub still_reads : (i : ℕ) → readable z ≡ true → HasShare answered_net i x p
  still_reads i read = has (reads (ap readable answer.after ∙ read))

-- the node gives its copy up, and says so
pub given_up_covered : (c : Config) (n : Net) (order : IsOrderly c n) (counted : IsCounted n)
    (k : HasAccurateCopySets n) {T : Type 0} {at : T → Entry} (r : Served c n at content.Inval) (z : Entry)
    → StaysPutOff z (at r.state) → StaysPutOff (at r.state) z
    → IsOccupied z → is_owner z ≡ false
    → HasAccurateCopySets (goes_on n r.node r.page z r.rest
    (parcel_to r.node r.origin r.origin r.call (content.InvalAck r.page) ∷ []))
given_up_covered c n order counted k r z fewer still occupied plain =
    unmoved_covered c n k r z r.origin (content.InvalAck r.page) fewer still refl refl occupied
    (λ bits bytes h. cc) (λ h. absurd (let f : true ≡ false = sym h ∙ plain in cc)) tt
    (λ i w b h read. (
    let told : IsThere (goes_on n r.node r.page z r.rest
    (parcel_to r.node r.origin r.origin r.call (content.InvalAck r.page) ∷ []))
    (letter r.node r.origin r.origin r.call (content.InvalAck r.page)) =
    letter_there n r.node r.page z r.rest r.origin r.origin r.call (content.InvalAck r.page)
    counted in
    gave (record {
      at = told.0;
      letter = letter r.node r.origin r.origin r.call (content.InvalAck r.page);
      there = told.1;
      from = refl;
      dest = order_owner c n order
          (letter r.from r.node r.origin r.call (content.Inval r.page)) r.rest r.page r.loose refl i
          w b h;
      says = refl;
    })
    ))

-- a word begins to wait, and asks
module _ (c : Config) (n : Net) (k : HasAccurateCopySets n) (r : Begins c n) (z : Entry) (dest : ℕ)
    (body : Content) (none : put_offs z ≡ []) where
  open r use {node as x, page as p, call, state as s, loose, is}

  abbrev asking_net : Net
  asking_net = goes_on n x p z [] (parcel_to x dest x call body ∷ [])

  asks : IsStep n asking_net x p (entry.Idle s) z served
      (IsThe (Underway x dest (length (n.posted x dest))) (letter x dest x call body))
  asks =
      ask_step n x p (entry.Idle s) z dest x call body is loose
      (λ j q h. absurd (none-some q (ap (λ v. slice_get v j) (sym none) ∙ h)))

  all_remain : Remain n asking_net IsNothing
  all_remain =
      begun_remain n x p (entry.Idle s) z [] (parcel_to x dest x call body ∷ []) is loose
      (λ j q h. absurd (none-some q h))

  pub asked_covered : page_of body ≡ p → IsOccupied z → IsNoPage body p → is_owner z ≡ false
      → (readable (entry.Idle s) ≡ true → readable z ≡ true) → HasAccurateCopySets asking_net
  asked_covered new_about occupied page plain reader =
      step_covered n asking_net x p (entry.Idle s) z served
      (IsThe (Underway x dest (length (n.posted x dest))) (letter x dest x call body)) asks
      IsNothing all_remain
      (record {
        about = λ l gone. absurd gone;
        new_about = λ a l new. ap (λ (v : Letter). page_of v.message.content) new.1 ∙ new_about;
        entry = occupied;
        here = stays_here n asking_net x p (entry.Idle s) z served
            (IsThe (Underway x dest (length (n.posted x dest))) (letter x dest x call body)) asks
            IsNothing all_remain
            (record {
              owner = λ q h. absurd (let f : true ≡ false = sym h ∙ plain in cc);
              moved =
                  λ a l bits bytes new brings. page bits bytes
                  (ap (λ (v : Letter). v.message.content) (sym new.1) ∙ brings);
            }) k
            (λ i y w b h held share.
            share_stays n asking_net x p (entry.Idle s) z served
            (IsThe (Underway x dest (length (n.posted x dest))) (letter x dest x call body)) asks
            IsNothing all_remain i y p
            (λ here q read. has (reads
            (ap (λ v. readable (asking_net.entry v p)) here ∙ ap readable asks.after
            ∙ reader read)))
            (λ l gone. absurd gone) share);
      }) k

-- a word joins the fetch of its page
joined_occupied : (e : Entry) (w : Word) → IsOccupied e → IsOccupied (joined_by e w)
joined_occupied (entry.Idle s) w h = h
joined_occupied (entry.AwaitRead s) w h = h
joined_occupied (entry.AwaitWrite s) w h = h
joined_occupied (entry.AwaitAcks s) w h = h

joined_reads : (e : Entry) (w : Word) → readable (joined_by e w) ≡ readable e
joined_reads (entry.Idle s) w = refl
joined_reads (entry.AwaitRead s) w = refl
joined_reads (entry.AwaitWrite s) w = refl
joined_reads (entry.AwaitAcks s) w = refl

module _ (c : Config) (n : Net) (k : HasAccurateCopySets n) (r : Joins c n) where
  open r use {node as x, page as p, word as w, before as e, loose, is}

  abbrev joined_net : Net
  joined_net = goes_on n x p (joined_by e w) [] []

  joins : IsStep n joined_net x p e (joined_by e w) served IsNone
  joins = stay_step n x p e (joined_by e w) is (joined_kept e w)

  joins_remain : Remain n joined_net IsNothing
  joins_remain = begun_remain n x p e (joined_by e w) [] [] is loose (joined_stays e w)

  pub joined_covered : HasAccurateCopySets joined_net
  joined_covered =
      step_covered n joined_net x p e (joined_by e w) served IsNone joins IsNothing joins_remain
      (record {
        about = λ l gone. absurd gone;
        new_about = λ a l new. absurd new;
        entry = joined_occupied e w (subst IsOccupied is (k.occupied x p));
        here = stays_here n joined_net x p e (joined_by e w) served IsNone joins IsNothing
            joins_remain
            (record {
              owner = λ q h. (joined_still e w).owner h;
              moved = λ a l bits bytes new brings. new;
            }) k
            (λ i y s b h held share.
            share_stays n joined_net x p e (joined_by e w) served IsNone joins IsNothing
            joins_remain
            i y p
            (λ here q read. has (reads
            (ap (λ v. readable (joined_net.entry v p)) here ∙ ap readable joins.after
            ∙ joined_reads e w ∙ read)))
            (λ l gone. absurd gone) share);
      }) k

-- a message is put off
put_no_share : (kind : Request) (p : ℕ) → IsNoShare (content_of kind p)
put_no_share request.Read p = tt
put_no_share request.Write p = tt
put_no_share request.Invalidate p = tt

pub put_about : (kind : Request) (p : ℕ) → page_of (content_of kind p) ≡ p
put_about request.Read p = refl
put_about request.Write p = refl
put_about request.Invalidate p = refl

put_occupied : (e : Entry) (q : PutOff) → IsOccupied e → IsOccupied (with_put_off e q)
put_occupied (entry.Idle s) q h = h
put_occupied (entry.AwaitRead s) q h = tt
put_occupied (entry.AwaitWrite s) q h = tt
put_occupied (entry.AwaitAcks s) q h = h

module _ (c : Config) (n : Net) (k : HasAccurateCopySets n) (r : PutsOff c n) where
  open r use {node as x, page as p, from, later, before as e, rest, loose, is, room}

  abbrev put_net : Net
  put_net = goes_on n x p (with_put_off e later) rest []

  abbrev put_letter : Letter
  put_letter = letter from x later.origin later.call (content_of later.kind p)

  puts : IsStep n put_net x p e (with_put_off e later) served
      (IsThe (Aside x p (length (put_offs e))) (letter_of x p later))
  puts = put_off_step n x p from later e rest loose is room

  rest_remain : Remain n put_net (IsOnly put_letter)
  rest_remain =
      served_remain n x p e (with_put_off e later) rest [] is put_letter loose
      (put_off_stays e later room)

  pub put_covered : HasAccurateCopySets put_net
  put_covered =
      step_covered n put_net x p e (with_put_off e later) served
      (IsThe (Aside x p (length (put_offs e))) (letter_of x p later)) puts (IsOnly put_letter)
      rest_remain
      (record {
        about =
            λ l gone. ap (λ (v : Letter). page_of v.message.content) gone ∙ put_about later.kind p;
        new_about =
            λ a l new. ap (λ (v : Letter). page_of v.message.content) new.1
            ∙ put_about later.kind p;
        entry = put_occupied e later (subst IsOccupied is (k.occupied x p));
        here = stays_here n put_net x p e (with_put_off e later) served
            (IsThe (Aside x p (length (put_offs e))) (letter_of x p later)) puts
            (IsOnly put_letter) rest_remain
            (record {
              owner = λ q h. (sym (put_same e later).1 ∙ h, (put_same e later).2);
              moved =
                  λ a l bits bytes new brings. put_no_page later.kind p p bits bytes
                  (ap (λ (v : Letter). v.message.content) (sym new.1) ∙ brings);
            }) k
            (λ i y w b h held share.
            share_stays n put_net x p e (with_put_off e later) served
            (IsThe (Aside x p (length (put_offs e))) (letter_of x p later)) puts
            (IsOnly put_letter) rest_remain i y p
            (λ here q read. has (reads
            (ap (λ v. readable (put_net.entry v p)) here ∙ ap readable puts.after
            ∙ (put_same e later).3 ∙ read)))
            (λ l gone is_share. absurd
            (only_no_share put_letter l i y p (put_no_share later.kind p) gone is_share)) share);
      }) k
