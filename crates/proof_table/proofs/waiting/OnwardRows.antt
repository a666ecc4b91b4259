-- Each row of the table of coherence events is a step by which letters go onward.
use Rattle.std.proofs.Common.{◌≡◌, ◌≢◌, ◌⊎◌, ◌+◌, ℕ, Bool, true, false, List, [], ◌∷◌, ◌++◌, length, map, slice_get, Some, refl, sym, ap, ◌∙◌, subst, inl, inr, arith}
use Rattle.std.proofs.lemmas.Bool.{cases_Bool, both_ways}
use Rattle.std.proofs.lemmas.Option.{none-some}
use Rattle.std.specs.FinSet as set
use Rattle.ivy_model.specs.declared.Config.{Config}
use Rattle.ivy_model.specs.stated.Config.{IsConfig}
use Rattle.ivy_wire.specs.declared.Content.TheVariants as content
use Rattle.ivy_wire.specs.stated.Data.{Content, Message, Parcel}
use Rattle.ivy_wire.specs.stated.Posts.{parcel_to}
use Rattle.ivy_pagetable.specs.declared.Entry.{Entry}
use Rattle.ivy_pagetable.specs.declared.Entry.TheVariants as entry
use Rattle.ivy_pagetable.specs.declared.PutOff.{PutOff}
use Rattle.ivy_pagetable.specs.declared.Request.{Request}
use Rattle.ivy_pagetable.specs.declared.Request.TheVariants as request
use Rattle.ivy_pagetable.specs.stated.NodeSets.{nodes_with}
use Rattle.ivy_pagetable.specs.stated.States.{IdleState}
use Rattle.ivy_pagetable.specs.stated.Entries.{put_offs, is_locked, is_owner, copying, owning, without, sharing, can_put_off, with_put_off}
use Rattle.ivy_coherence.specs.stated.Fetching.{joined_by}
use Rattle.ivy_coherence.specs.stated.MessageSteps.{sending}
use Rattle.ivy_coherence.specs.stated.Serving.{invalidations}
use Rattle.ivy_fixed.specs.stated.Fixed.{Owners, fixed_ops}
use Rattle.proof_table.specs.stated.Letters.{Letter, Net, Place, Underway, Aside, Loose, IsAt, content_of, letter_of}
use Rattle.proof_table.specs.transitions.Letters.{goes_on}
use Rattle.proof_table.specs.stated.Orderly.{Collects, IsOrderly}
use Rattle.proof_table.specs.transitions.TableSteps.{Served, Comes, Begins, Joins, PutsOff, Notice, Row, IsNamedBy, letter}
use Rattle.proof_table.proofs.transitions.Needs.{page_of, put_about}
use Rattle.proof_table.proofs.transitions.Members.{without_itself, without_any}
use Rattle.proof_table.proofs.transitions.Places.{written_here, served, freed}
use Rattle.proof_table.proofs.transitions.RowsJoined.{joined_owner, joined_locked, joined_collects, joined_kept, joined_stays}
use Rattle.proof_table.proofs.transitions.Parcels.{IsThe, IsNone, IsOrder, answer_step, ask_step, orders_step, free_step, stay_step}
use Rattle.proof_table.specs.stated.Descending.{IsAsked, Descends}
use Rattle.proof_table.specs.routing.Claiming.{claims}
use Rattle.proof_table.specs.routing.Managing.{IsManaged}
use Rattle.proof_table.proofs.routing.Asked.{asked_others, other_asker}
use Rattle.proof_table.proofs.routing.Descent.{descends}
use Rattle.proof_table.proofs.routing.NoBreach.{no_breach}
use Rattle.proof_table.proofs.routing.Old.{put_off_step, put_off_stays}
use Rattle.proof_table.proofs.routing.Remaining.{IsThere, IsCounted, StaysPutOff, letter_there, get_second}
use Rattle.proof_table.specs.waiting.Readers.{IsFair}
use Rattle.proof_table.proofs.waiting.Readers.{asked_at}
use Rattle.proof_table.proofs.waiting.ReadersKept.{read_gone}
use Rattle.proof_table.proofs.waiting.Onward.{IsStill, IsSentOn, IsAnswered, IsLast, last_about, IsFreed, AsksFor, IsElsewhere, IsGivenAway, IsFresh, IsOnward, posts_longer, served_later, freed_later, served_still, freed_still, begun_still, entry_onward, installed_onward, none_onward}
use Rattle.proof_table.proofs.waiting.OnwardTaken.{taken_onward}

never : {P : Type 0} → false ≡ true → P
never h = absurd cc

module _ (c : Config) (n : Net) (counted : IsCounted n) where
  -- a letter is served at an idle entry, and one goes out
  module _ {ask : ℕ → Content} (r : Served c n entry.Idle ask) (z : IdleState) (dest : ℕ)
      (body : Content) where
    open r use {node as x, page as p, from, origin, call, state as s, rest, loose, is}

    abbrev old : Letter
    old = letter from x origin call (ask p)

    abbrev sent : Letter
    sent = letter x dest origin call body

    abbrev after_serving : Net
    after_serving = goes_on n x p (entry.Idle z) rest (parcel_to x dest origin call body ∷ [])

    sent_there : IsThere after_serving sent
    sent_there = letter_there n x p (entry.Idle z) rest dest origin call body counted

    serving_onward : {alone : ℕ → ℕ → Type 0} → IsAnswered n after_serving old (ask p)
        → page_of (ask p) ≡ p
        → (s.owner ≡ true → (z.owner ≡ true) ⊎ IsGivenAway alone n after_serving x p)
        → ((q : ℕ) (bytes : List ℕ) → body ≡ content.ReadRep q bytes
        → (q ≡ p) × (s.owner ≡ true)) → IsOnward c alone n after_serving
    serving_onward answer about owner copy =
        entry_onward c _ n after_serving x p (entry.Idle s) (entry.Idle z) served
        (IsThe (Underway x dest (length (n.posted x dest))) sent)
        (answer_step n x p (entry.Idle s) (entry.Idle z) old rest dest origin call body is loose
        (λ k q h. h))
        (record {
          here = r.here;
          how = inl (λ a. refl);
          places = λ a l it. subst (IsFresh n) (sym it.0) (omega arith);
          cause = inl (old, ap (λ v. slice_get v 0) loose, refl, about);
          longer = posts_longer n x p (entry.Idle z) rest (parcel_to x dest origin call body ∷ []);
          moves = served_later;
          stays = λ a l at.
              elim (served_still n x p (entry.Idle s) (entry.Idle z) rest
              (parcel_to x dest origin call body ∷ []) is old loose (λ j q h. h) a l at) [
                | inl h ↦ inl h
                | inr it ↦
                    inr (subst (λ (v : Letter). IsAnswered n after_serving v v.message.content)
                    (sym it) answer)
              ];
          owner = owner;
          collects = λ target k own h. absurd h;
          locks = λ h. never h;
          begins = λ f h. never h;
          copies = λ a l q bytes it says. (
              let b = copy q bytes (ap (λ (v : Letter). v.message.content) (sym it.1) ∙ says) in
              let here : n.entry l.source q ≡ entry.Idle s =
              ap (λ v. n.entry v q) (ap (λ (v : Letter). v.source) it.1) ∙ ap (n.entry x) b.0 ∙ is in
              (ap is_owner here ∙ b.1, ap is_locked here)
              );
        })

    -- a request goes on to another node
    sent_on : s.owner ≡ false → dest ≢ x → IsSentOn n after_serving old body p
    sent_on plain away = record {
      plain = ap claims is ∙ plain;
      hop = dest;
      away = away;
      asked = record {
        at = sent_there.0;
        letter = sent;
        there = sent_there.1;
        dest = refl;
        asker = refl;
        asks = refl;
      };
    }

  -- a word begins to wait at an idle entry of a node that does not own the page, and asks
  module _ (r : Begins c n) (z : Entry) (dest : ℕ) (body : Content) where
    open r use {node as x, page as p, call, state as s, loose, is}

    begun_onward : {alone : ℕ → ℕ → Type 0} → s.owner ≡ false → put_offs z ≡ []
        → ((target k : ℕ) → Collects z k target → ⊥)
        → ((q : ℕ) (bytes : List ℕ) → body ≡ content.ReadRep q bytes → ⊥)
        → IsOnward c alone n (goes_on n x p z [] (parcel_to x dest x call body ∷ []))
    begun_onward plain empty none uncopied =
        entry_onward c _ n _ x p (entry.Idle s) z served
        (IsThe (Underway x dest (length (n.posted x dest))) (letter x dest x call body))
        (ask_step n x p (entry.Idle s) z dest x call body is loose
        (λ k q h. absurd (none-some q (ap (λ v. slice_get v k) (sym empty) ∙ h))))
        (record {
          here = r.here;
          how = inl (λ a. refl);
          places = λ a l it. subst (IsFresh n) (sym it.0) (omega arith);
          cause = inr (loose, inl refl);
          longer = posts_longer n x p z [] (parcel_to x dest x call body ∷ []);
          moves = served_later;
          stays = λ a l at. inl (begun_still n x p (entry.Idle s) z []
              (parcel_to x dest x call body ∷ []) is loose
              (λ j q h. absurd (none-some q h)) a l at);
          owner = λ h. absurd (both_ways s.owner plain h);
          collects = λ target k own h. absurd (none target k h);
          locks = λ h. never h;
          begins = λ f h. loose;
          copies = λ a l q bytes it says.
              absurd (uncopied q bytes (ap (λ (v : Letter). v.message.content) (sym it.1) ∙ says));
        })

-- a message is put off
module _ (c : Config) (n : Net) (put : PutsOff c n) where
  open put use {node as x, page as p, from, later as r, before as e, rest, loose, is, room}

  abbrev putting : Net
  putting = goes_on n x p (with_put_off e r) rest []

  put_locked : (v : Entry) → is_locked (with_put_off v r) ≡ is_locked v
  put_locked (entry.Idle s) = refl
  put_locked (entry.AwaitRead s) = refl
  put_locked (entry.AwaitWrite s) = refl
  put_locked (entry.AwaitAcks s) = refl

  put_owner : (v : Entry) → is_owner (with_put_off v r) ≡ is_owner v
  put_owner (entry.Idle s) = refl
  put_owner (entry.AwaitRead s) = refl
  put_owner (entry.AwaitWrite s) = refl
  put_owner (entry.AwaitAcks s) = refl

  put_collects : (v : Entry) (k target : ℕ) → Collects (with_put_off v r) k target
      → Collects v k target
  put_collects (entry.Idle s) k target h = h
  put_collects (entry.AwaitRead s) k target h = h
  put_collects (entry.AwaitWrite s) k target h = h
  put_collects (entry.AwaitAcks s) k target h = h

  unanswered : (k : Request) (q : ℕ) → content_of k p ≡ content.InvalAck q → ⊥
  unanswered request.Read q h = cc
  unanswered request.Write q h = cc
  unanswered request.Invalidate q h = cc

  uncopied : (k : Request) (q : ℕ) (bytes : List ℕ) → content_of k p ≡ content.ReadRep q bytes → ⊥
  uncopied request.Read q bytes h = cc
  uncopied request.Write q bytes h = cc
  uncopied request.Invalidate q bytes h = cc

  abbrev later_on : Letter
  later_on = letter from x r.origin r.call (content_of r.kind p)

  abbrev behind : Place
  behind = Aside x p (length (put_offs e) + 0)

  put_last : (v : Entry) → can_put_off v ≡ true → put_offs (with_put_off v r) ≡ put_offs v ++ r ∷ []
  put_last (entry.Idle s) h = never h
  put_last (entry.AwaitRead s) h = refl
  put_last (entry.AwaitWrite s) h = refl
  put_last (entry.AwaitAcks s) h = refl

  put_there : IsAt putting behind (letter_of x p r)
  put_there = (
    r,
    ap (λ y. slice_get (put_offs y) (length (put_offs e) + 0))
        (written_here n.entry x p (with_put_off e r) x p refl refl)
        ∙ ap (λ v. slice_get v (length (put_offs e) + 0)) (put_last e room)
        ∙ get_second (put_offs e) (r ∷ []) 0 (length (put_offs e) + 0) refl,
    refl,
  )

  put_in : (a : Place) → IsStill putting a later_on
  put_in a = record {
    at = behind;
    letter = letter_of x p r;
    there = put_there;
    later = inr tt;
    dest = refl;
    says = refl;
    source = λ q h. absurd (unanswered r.kind q h);
  }

  put_onward : {alone : ℕ → ℕ → Type 0} → IsOnward c alone n putting
  put_onward =
      entry_onward c _ n putting x p e (with_put_off e r) served
      (IsThe (Aside x p (length (put_offs e))) (letter_of x p r))
      (put_off_step n x p from r e rest loose is room)
      (record {
        here = put.here;
        how = inl (λ a. refl);
        places = λ a l it. subst (IsFresh n) (sym it.0) tt;
        cause = inl (later_on, ap (λ v. slice_get v 0) loose, refl, put_about r.kind p);
        longer = posts_longer n x p (with_put_off e r) rest [];
        moves = served_later;
        stays = λ a l at.
            elim (served_still n x p e (with_put_off e r) rest [] is later_on loose
            (put_off_stays e r room) a l at) [
              | inl h ↦ inl h
              | inr it ↦ inl (subst (IsStill putting a) (sym it) (put_in a))
            ];
        owner = λ h. inl (put_owner e ∙ h);
        collects = λ target k own h. inl (put_collects e k target h);
        locks = λ h. inl (put_locked e ∙ h);
        begins = λ f h. never (sym f ∙ sym (put_locked e) ∙ h);
        copies = λ a l q bytes it says.
            absurd (uncopied r.kind q bytes
            (ap (λ (v : Letter). v.message.content) (sym it.1) ∙ says));
      })

module _ (c : Config) (n : Net) where
  -- what a word waits for comes last: it is carried out, and what was put off is loose
  came_onward : {T : Type 0} {at : T → Entry} {bring : ℕ → Content} {alone : ℕ → ℕ → Type 0}
      (r : Comes c n at bring) (z : IdleState) → (is_owner (at r.state) ≡ true → z.owner ≡ true)
      → is_locked (at r.state) ≡ true
      → IsLast (at r.state) (letter r.from r.node r.node r.call (bring r.page)) r.page
      → IsAnswered n
      (goes_on n r.node r.page (entry.Idle z)
      (map (letter_of r.node r.page) (put_offs (at r.state))) [])
      (letter r.from r.node r.node r.call (bring r.page)) (bring r.page)
      → IsOnward c alone n
      (goes_on n r.node r.page (entry.Idle z)
      (map (letter_of r.node r.page) (put_offs (at r.state))) [])
  came_onward {at = at} {bring = bring} r z owner locked last answer =
      entry_onward c _ n n' x p (at s) (entry.Idle z) (freed x p) IsNone
      (free_step n x p (at s) (entry.Idle z) (put_offs (at s)) is refl refl)
      (record {
        here = r.here;
        how = inr (λ a. refl, freed_here, refl);
        places = λ a l it. absurd it;
        cause = inl (
          old,
          ap (λ v. slice_get v 0) loose,
          refl,
          last_about (at s) old p last,
        );
        longer = posts_longer n x p (entry.Idle z) (map (letter_of x p) (put_offs (at s))) [];
        moves = freed_later x p;
        stays = λ a l it.
            elim (freed_still n x p (at s) (entry.Idle z) (map (letter_of x p) (put_offs (at s))) []
            is old loose refl a l it) [
              | inl h ↦ inl h
              | inr same ↦
                  inr (subst (λ (v : Letter). IsAnswered n n' v v.message.content) (sym same) answer)
            ];
        owner = λ h. inl (owner h);
        collects = λ target k own h. absurd h;
        locks = λ h. inr freed_here;
        begins = λ f h. never h;
        copies = λ a l q bytes it says. absurd it;
      })
    where
      open r use {node as x, page as p, from, call, state as s, loose, foreign, is}

      old : Letter
      old = letter from x x call (bring p)

      n' : Net
      n' = goes_on n x p (entry.Idle z) (map (letter_of x p) (put_offs (at s))) []

      freed_here : IsFreed n x p
      freed_here = record {
        letter = old;
        loose = loose;
        dest = refl;
        asker = refl;
        away = foreign;
        last = subst (λ v. IsLast v old p) (sym is) last;
      }

  -- the page comes, and others have a copy
  ordering_onward : {alone : ℕ → ℕ → Type 0} (copies : ℕ) (bytes : List ℕ)
      (r : Comes c n entry.AwaitWrite (λ p. content.WriteRep p copies bytes))
      → IsOnward c alone n
      (goes_on n r.node r.page
      (entry.AwaitAcks (record { left = nodes_with copies; waiting = r.state.waiting })) []
      (invalidations r.node r.page r.call (nodes_with copies)))
  ordering_onward copies bytes r =
      entry_onward c _ n n' x p (entry.AwaitWrite s) z served
      (IsOrder n x p call (nodes_with copies))
      (orders_step n x p (entry.AwaitWrite s) z call (nodes_with copies) is (λ k q h. h))
      (record {
        here = r.here;
        how = inl (λ a. refl);
        places = λ a l it. subst (IsFresh n) (sym it.2) (omega arith);
        cause = inl (old, ap (λ v. slice_get v 0) loose, refl, refl);
        longer = posts_longer n x p z [] (invalidations x p call (nodes_with copies));
        moves = served_later;
        stays = λ a l at.
            elim (served_still n x p (entry.AwaitWrite s) z []
            (invalidations x p call (nodes_with copies)) is old loose (λ j q h. h) a l at) [
              | inl h ↦ inl h
              | inr same ↦
                  inr (subst (λ (v : Letter). IsAnswered n n' v v.message.content) (sym same)
                  (ap is_owner (written_here n.entry x p z x p refl refl)))
            ];
        owner = λ h. never h;
        collects = λ target k own h. never own;
        locks = λ h. inl refl;
        begins = λ f h. never (sym f);
        copies = λ a l q d it says. absurd (
            let e : content.Inval p ≡ content.ReadRep q d =
            ap (λ (v : Letter). v.message.content) (sym it.3) ∙ says in
            cc
            );
      })
    where
      open r use {node as x, page as p, from, call, state as s, loose, is}

      old : Letter
      old = letter from x x call (content.WriteRep p copies bytes)

      z : Entry
      z = entry.AwaitAcks (record { left = nodes_with copies; waiting = s.waiting })

      n' : Net
      n' = goes_on n x p z [] (invalidations x p call (nodes_with copies))

  -- an acknowledgement comes, and others are missing
  fewer_onward : {alone : ℕ → ℕ → Type 0} (r : Comes c n entry.AwaitAcks content.InvalAck)
      → IsOnward c alone n
      (goes_on n r.node r.page
      (entry.AwaitAcks
      (record { left = set.remove r.state.left r.from; waiting = r.state.waiting })) [] [])
  fewer_onward r =
      entry_onward c _ n n' x p (entry.AwaitAcks s) z served IsNone
      (stay_step n x p (entry.AwaitAcks s) z is (λ k q h. h))
      (record {
        here = r.here;
        how = inl (λ a. refl);
        places = λ a l it. absurd it;
        cause = inl (old, ap (λ v. slice_get v 0) loose, refl, refl);
        longer = posts_longer n x p z [] [];
        moves = served_later;
        stays = λ a l at.
            elim (served_still n x p (entry.AwaitAcks s) z [] [] is old loose (λ j q h. h) a l at) [
              | inl h ↦ inl h
              | inr same ↦
                  inr (subst (λ (v : Letter). IsAnswered n n' v v.message.content) (sym same)
                  (λ k h. both_ways (set.contains (set.remove s.left from) from)
                  (without_itself s.left from)
                  (subst (λ v. Collects v k from) (written_here n.entry x p z x p refl refl) h).1))
            ];
        owner = λ h. inl refl;
        collects = λ target k own h. inl (h.0, still_left target h.1);
        locks = λ h. inl refl;
        begins = λ f h. never (sym f);
        copies = λ a l q d it says. absurd it;
      })
    where
      open r use {node as x, page as p, from, call, state as s, loose, is}

      old : Letter
      old = letter from x x call (content.InvalAck p)

      z : Entry
      z = entry.AwaitAcks (record { left = set.remove s.left from; waiting = s.waiting })

      n' : Net
      n' = goes_on n x p z [] []

      still_left : (target : ℕ) → set.contains (set.remove s.left from) target ≡ true
          → set.contains s.left target ≡ true
      still_left target h = elim (cases_Bool (set.contains s.left target)) [
        | inl still ↦ still
        | inr gone ↦
            absurd (both_ways (set.contains (set.remove s.left from) target)
            (without_any s.left from target gone) h)
      ]

  -- an owner tells the others to give their copies up
  ends_onward : {alone : ℕ → ℕ → Type 0} (r : Begins c n) → r.state.owner ≡ true → (z : Entry)
      → is_owner z ≡ true → put_offs z ≡ []
      → IsOnward c alone n
      (goes_on n r.node r.page z [] (invalidations r.node r.page r.call r.state.copies))
  ends_onward r own z owns none =
      entry_onward c _ n _ x p (entry.Idle s) z served (IsOrder n x p call s.copies)
      (orders_step n x p (entry.Idle s) z call s.copies is
      (λ k q h. absurd (none-some q (ap (λ v. slice_get v k) (sym none) ∙ h))))
      (record {
        here = r.here;
        how = inl (λ a. refl);
        places = λ a l it. subst (IsFresh n) (sym it.2) (omega arith);
        cause = inr (loose, inl refl);
        longer = posts_longer n x p z [] (invalidations x p call s.copies);
        moves = served_later;
        stays = λ a l at. inl (begun_still n x p (entry.Idle s) z []
            (invalidations x p call s.copies) is loose (λ j q h. absurd (none-some q h)) a l at);
        owner = λ h. inl owns;
        collects = λ target k own h. inr (loose, refl);
        locks = λ h. never h;
        begins = λ f h. loose;
        copies = λ a l q d it says. absurd (
            let e : content.Inval p ≡ content.ReadRep q d =
            ap (λ (v : Letter). v.message.content) (sym it.3) ∙ says in
            cc
            );
      })
    where
      open r use {node as x, page as p, call, state as s, loose, is}

  -- a word joins the fetch of its page
  joins_onward : {alone : ℕ → ℕ → Type 0} (r : Joins c n)
      → IsOnward c alone n (goes_on n r.node r.page (joined_by r.before r.word) [] [])
  joins_onward r =
      entry_onward c _ n _ x p e z served IsNone (stay_step n x p e z is (joined_kept e w))
      (record {
        here = r.here;
        how = inl (λ a. refl);
        places = λ a l it. absurd it;
        cause = inr (loose, inr (w, refl));
        longer = posts_longer n x p z [] [];
        moves = served_later;
        stays = λ a l at. inl (begun_still n x p e z [] [] is loose (joined_stays e w) a l at);
        owner = λ h. inl (joined_owner e w ∙ h);
        collects = λ target k own h. inl (joined_collects e w k target h);
        locks = λ h. inl (joined_locked e w ∙ h);
        begins = λ f h. loose;
        copies = λ a l q d it says. absurd it;
      })
    where
      open r use {node as x, page as p, word as w, before as e, loose, is}

      z : Entry
      z = joined_by e w

-- a node that does not own the page serves a letter, and one goes out: an order to give a copy up is
-- answered, a request is sent on
module _ (c : Config) (n : Net) {T : Type 0} {at : T → Entry} {ask : ℕ → Content}
    (r : Served c n at ask) (z : Entry) (dest : ℕ) (body : Content) where
  open r use {node as x, page as p, from, origin, call, state as s, rest, loose, is}

  abbrev passed : Letter
  passed = letter from x origin call (ask p)

  abbrev posts : List Parcel
  posts = parcel_to x dest origin call body ∷ []

  abbrev after_passing : Net
  after_passing = goes_on n x p z rest posts

  passing_onward : {alone : ℕ → ℕ → Type 0} → IsAnswered n after_passing passed (ask p)
      → page_of (ask p) ≡ p → is_owner (at s) ≡ false → is_locked z ≡ is_locked (at s)
      → ((k : ℕ) (q : PutOff) → slice_get (put_offs z) k ≡ Some q
      → slice_get (put_offs (at s)) k ≡ Some q) → StaysPutOff (at s) z
      → ((q : ℕ) (bytes : List ℕ) → body ≡ content.ReadRep q bytes → ⊥)
      → IsOnward c alone n after_passing
  passing_onward answer about plain locked kept still uncopied =
      entry_onward c _ n after_passing x p (at s) z served
      (IsThe (Underway x dest (length (n.posted x dest))) (letter x dest origin call body))
      (answer_step n x p (at s) z passed rest dest origin call body is loose kept)
      (record {
        here = r.here;
        how = inl (λ a. refl);
        places = λ a l it. subst (IsFresh n) (sym it.0) (omega arith);
        cause = inl (passed, ap (λ v. slice_get v 0) loose, refl, about);
        longer = posts_longer n x p z rest posts;
        moves = served_later;
        stays = λ a l it.
            elim (served_still n x p (at s) z rest posts is passed loose still a l it) [
              | inl h ↦ inl h
              | inr same ↦
                  inr (subst (λ (v : Letter). IsAnswered n after_passing v v.message.content)
                  (sym same) answer)
            ];
        owner = λ h. absurd (both_ways (is_owner (at s)) plain h);
        collects = λ target k own h. absurd (both_ways (is_owner (at s)) plain own);
        locks = λ h. inl (locked ∙ h);
        begins = λ f h. never (sym f ∙ sym locked ∙ h);
        copies = λ a l q d it says.
            absurd (uncopied q d (ap (λ (v : Letter). v.message.content) (sym it.1) ∙ says));
      })

  passed_there : IsCounted n → IsThere after_passing (letter x dest origin call body)
  passed_there counted = letter_there n x p z rest dest origin call body counted

module _ (c : Config) (n : Net) (counted : IsCounted n) where
  giving_up_onward : {T : Type 0} {at : T → Entry} {alone : ℕ → ℕ → Type 0}
      (r : Served c n at content.Inval) (z : Entry)
      → is_owner (at r.state) ≡ false → is_locked z ≡ is_locked (at r.state)
      → ((k : ℕ) (q : PutOff) → slice_get (put_offs z) k ≡ Some q
      → slice_get (put_offs (at r.state)) k ≡ Some q) → StaysPutOff (at r.state) z
      → IsOnward c alone n
      (goes_on n r.node r.page z r.rest
      (parcel_to r.node r.origin r.origin r.call (content.InvalAck r.page) ∷ []))
  giving_up_onward {at = at} r z plain locked kept still =
      passing_onward c n r z r.origin (content.InvalAck r.page) (record {
        at = sent.0;
        letter = letter r.node r.origin r.origin r.call (content.InvalAck r.page);
        there = sent.1;
        from = refl;
        dest = refl;
        says = refl;
      }) refl plain locked kept still (λ q d h. cc)
    where
      sent : IsThere (after_passing c n r z r.origin (content.InvalAck r.page))
          (letter r.node r.origin r.origin r.call (content.InvalAck r.page))
      sent = passed_there c n r z r.origin (content.InvalAck r.page) counted

  -- a node that awaits a copy sends a request on
  reader_onward : {ask : ℕ → Content} {alone : ℕ → ℕ → Type 0} (r : Served c n entry.AwaitRead ask)
      (hop : ℕ) → hop ≢ r.node → page_of (ask r.page) ≡ r.page
      → ((away : IsSentOn n
      (goes_on n r.node r.page (entry.AwaitRead (sending r.state)) r.rest
      (parcel_to r.node hop r.origin r.call (ask r.page) ∷ []))
      (letter r.from r.node r.origin r.call (ask r.page)) (ask r.page) r.page)
      → IsAnswered n
      (goes_on n r.node r.page (entry.AwaitRead (sending r.state)) r.rest
      (parcel_to r.node hop r.origin r.call (ask r.page) ∷ []))
      (letter r.from r.node r.origin r.call (ask r.page)) (ask r.page))
      → ((q : ℕ) (bytes : List ℕ) → ask r.page ≡ content.ReadRep q bytes → ⊥)
      → IsOnward c alone n
      (goes_on n r.node r.page (entry.AwaitRead (sending r.state)) r.rest
      (parcel_to r.node hop r.origin r.call (ask r.page) ∷ []))
  reader_onward {ask = ask} r hop away about answer uncopied =
      passing_onward c n r (entry.AwaitRead (sending r.state)) hop (ask r.page) (answer (record {
        plain = ap claims r.is;
        hop = hop;
        away = away;
        asked = record {
          at = sent.0;
          letter = letter r.node hop r.origin r.call (ask r.page);
          there = sent.1;
          dest = refl;
          asker = refl;
          asks = refl;
        };
      })) about refl refl (λ k q g. g) (λ j q g. g) uncopied
    where
      sent : IsThere
          (after_passing c n r (entry.AwaitRead (sending r.state)) hop (ask r.page))
          (letter r.node hop r.origin r.call (ask r.page))
      sent = passed_there c n r (entry.AwaitRead (sending r.state)) hop (ask r.page) counted

-- under managing nodes no other request is left where the page is given away
module _ (c : Config) (m : ℕ → Owners) (n : Net) (order : IsOrderly c n) (managed : IsManaged c m n)
    (fair : IsFair c n) (r : Served c n entry.Idle content.WriteReq) (bits : ℕ) (bytes : List ℕ)
  where
    open r use {node as x, page as p, from, origin, call, state as s, rest, loose, inside, is}

    abbrev given : Net
    given = goes_on n x p (entry.Idle without) rest
        (parcel_to x origin origin call (content.WriteRep p bits bytes) ∷ [])

    abbrev asking : Letter
    asking = letter from x origin call (content.WriteReq p)

    none_stays : (a : Place) (l : Letter) → IsAt n a l → l.dest ≡ x → AsksFor p l
        → IsElsewhere c x p → IsStill given a l → ⊥
    none_stays a l at there (inl reads) ne still = read_gone c n fair r a l at reads there ne
    none_stays a l at there (inr writes) ne still =
        other_asker c n order asking rest p l.message.origin x (content.WriteReq p) loose refl
        (λ m. refl)
        (asked_others n given x p (entry.Idle s) (entry.Idle without) served
        (Underway x origin (length (n.posted x origin)))
        (letter x origin origin call (content.WriteRep p bits bytes))
        (answer_step n x p (entry.Idle s) (entry.Idle without) asking rest origin origin call
        (content.WriteRep p bits bytes) is loose (λ k q h. h)) (content.WriteReq p) (λ h. cc)
        l.message.origin x
        (record {
          at = still.at;
          letter = still.letter;
          there = still.there;
          dest = still.dest ∙ there;
          asker = ap (λ (v : Message). v.origin) still.says;
          asks = ap (λ (v : Message). v.content) still.says ∙ writes;
        }))
        ((managed.routed p inside).one_writer l.message.origin origin x ne
        (subst (IsAsked n (content.WriteReq p) l.message.origin) there
        (asked_at n a l (content.WriteReq p) at writes))
        (asked_at n (Loose 0) asking (content.WriteReq p) (ap (λ v. slice_get v 0) loose) refl))

-- where a node gives the page away, and requests are alone there, no other one is left
module _ (c : Config) (alone : ℕ → ℕ → Type 0) (n : Net) where
  abbrev pub AreAlone : Type 0
  AreAlone = (r : Served c n entry.Idle content.WriteReq) (bits : ℕ) (bytes : List ℕ) (a : Place)
      (l : Letter) → IsAt n a l → l.dest ≡ r.node → AsksFor r.page l → alone r.node r.page
      → IsStill
      (goes_on n r.node r.page (entry.Idle without) r.rest
      (parcel_to r.node r.origin r.origin r.call (content.WriteRep r.page bits bytes) ∷ [])) a l → ⊥

-- the page is given away
module _ (c : Config) (alone : ℕ → ℕ → Type 0) (n : Net) (counted : IsCounted n) where
  given_onward : AreAlone c alone n → (r : Served c n entry.Idle content.WriteReq) (bits : ℕ) (bytes : List ℕ)
      → IsOnward c alone n
      (goes_on n r.node r.page (entry.Idle without) r.rest
      (parcel_to r.node r.origin r.origin r.call (content.WriteRep r.page bits bytes) ∷ []))
  given_onward none r bits bytes =
      serving_onward c n counted r without r.origin (content.WriteRep r.page bits bytes)
      (inl (record {
        at = there.0;
        letter = letter r.node r.origin r.origin r.call (content.WriteRep r.page bits bytes);
        bits = bits;
        bytes = bytes;
        there = there.1;
        dest = refl;
        brings = refl;
      }))
      refl (λ own. inr (record { idle = ap is_locked r.is; none = none r bits bytes }))
      (λ q d h. absurd cc)
    where
      there : IsThere
          (goes_on n r.node r.page (entry.Idle without) r.rest
          (parcel_to r.node r.origin r.origin r.call (content.WriteRep r.page bits bytes) ∷ []))
          (letter r.node r.origin r.origin r.call (content.WriteRep r.page bits bytes))
      there = letter_there n r.node r.page (entry.Idle without) r.rest r.origin r.origin r.call
          (content.WriteRep r.page bits bytes) counted

-- under any manager by which requests go down
module _ (c : Config) (config : IsConfig c) where
  pub onward_at : {sends : Bool} {alone : ℕ → ℕ → Type 0} {n : Net} {f : ℕ → List ℕ} {notice : Notice}
      {n' : Net} {f' : ℕ → List ℕ} → Row sends c n f notice n' f'
      → IsOrderly c n → Descends n → IsCounted n → AreAlone c alone n → IsOnward c alone n n'
  onward_at {n = n} (Row.carries r) o down counted left =
      installed_onward c n n r.node r.page _ (none_onward c n)
  onward_at {n = n} (Row.takes r) o down counted left = taken_onward c n r
  onward_at {n = n} (Row.drops r) o down counted left =
      absurd (no_breach _ down c config o r.node r.old r.rest r.here r.loose r.dest
      r.misfits)
  onward_at {n = n} (Row.shares r owner low) o down counted left =
      serving_onward c n counted r (sharing (set.insert r.state.copies r.origin)) r.origin
      (content.ReadRep r.page (n.page r.node r.page))
      (inl (let there =
      sent_there c n counted r (sharing (set.insert r.state.copies r.origin)) r.origin
      (content.ReadRep r.page (n.page r.node r.page)) in
      record {
        at = there.0;
        letter = letter r.node r.origin r.origin r.call
            (content.ReadRep r.page (n.page r.node r.page));
        bytes = n.page r.node r.page;
        there = there.1;
        from = refl;
        dest = refl;
        brings = refl;
      }))
      refl (λ own. inl refl)
      (λ q bytes e. (
        (let d : content.ReadRep r.page (n.page r.node r.page)
            ≡ content.ReadRep q bytes = e in cc),
        owner,
      ))
  onward_at {alone = alone} {n = n} (Row.gives r owner low) o down counted left =
      given_onward c alone n counted left r _ _
  onward_at {n = n} (Row.sends_on_read r hop plain away) o down counted left =
      serving_onward c n counted r r.state hop (content.ReadReq r.page)
      (inr (sent_on c n counted r r.state hop (content.ReadReq r.page) plain away.away)) refl
      (λ own. inl own) (λ q bytes e. absurd cc)
  onward_at {n = n} (Row.sends_on_write r hop plain away) o down counted left =
      serving_onward c n counted r r.state hop (content.WriteReq r.page)
      (inr (sent_on c n counted r r.state hop (content.WriteReq r.page) plain away.away)) refl
      (λ own. inl own) (λ q bytes e. absurd cc)
  onward_at {n = n} (Row.ends_copy r sender plain) o down counted left =
      giving_up_onward c n counted r (entry.Idle without) plain refl (λ k q g. g) (λ j q g. g)
  onward_at {n = n} (Row.gives_up r sender) o down counted left =
      giving_up_onward c n counted r _ refl refl (λ k q g. g) (λ j q g. g)
  onward_at {n = n} (Row.puts_off r kept) o down counted left = put_onward c n r
  onward_at {n = n} (Row.reader_sends_on_read r hop sends away) o down counted left =
      reader_onward c n counted r hop away.away refl (λ on. inr on) (λ q bytes e. cc)
  onward_at {n = n} (Row.reader_sends_on_write r hop sends away) o down counted left =
      reader_onward c n counted r hop away.away refl (λ on. inr on) (λ q bytes e. cc)
  onward_at {n = n} (Row.copy_comes bytes r same quiet) o down counted left =
      installed_onward c n _ r.node r.page bytes
      (came_onward c n r copying (λ own. never own) refl (same, (bytes, refl))
      (ap is_locked (written_here n.entry r.node r.page (entry.Idle copying) r.node r.page refl refl)))
  onward_at {n = n} (Row.copy_comes_late bytes r same sent) o down counted left =
      installed_onward c n _ r.node r.page bytes
      (came_onward c n r copying (λ own. never own) refl (same, (bytes, refl))
      (ap is_locked (written_here n.entry r.node r.page (entry.Idle copying) r.node r.page refl refl)))
  onward_at {n = n} (Row.page_comes copies bytes r same none) o down counted left =
      installed_onward c n _ r.node r.page bytes
      (came_onward c n r owning (λ own. refl) refl (same, (copies, bytes, refl, none))
      (ap is_owner (written_here n.entry r.node r.page (entry.Idle owning) r.node r.page refl refl)))
  onward_at {n = n} (Row.page_comes_shared copies bytes r same some out low) o down counted left =
      installed_onward c n _ r.node r.page bytes (ordering_onward c n copies bytes r)
  onward_at {n = n} (Row.acknowledges r same left_over more) o down counted left = fewer_onward c n r
  onward_at {n = n} (Row.acknowledges_last r same left_over last) o down counted left =
      came_onward c n r owning (λ own. refl) refl (same, refl, left_over, last)
      (λ k g. subst (λ v. Collects v k r.from)
      (written_here n.entry r.node r.page (entry.Idle owning) r.node r.page refl refl) g)
  onward_at {n = n} (Row.asks_copy r hop plain unread away) o down counted left =
      begun_onward c n counted r _ hop (content.ReadReq r.page) plain refl (λ target k g. g)
      (λ q bytes e. cc)
  onward_at {n = n} (Row.asks_page r hop plain away) o down counted left =
      begun_onward c n counted r _ hop (content.WriteReq r.page) plain refl (λ target k g. g)
      (λ q bytes e. cc)
  onward_at {n = n} (Row.ends_copies r owner reader unwritten low out) o down counted left =
      ends_onward c n r owner _ refl refl
  onward_at {n = n} (Row.joins r) o down counted left = joins_onward c n r

  -- under managing nodes
  pub onward_by : {m : ℕ → Owners} {n : Net} {f : ℕ → List ℕ} {notice : Notice} {n' : Net}
      {f' : ℕ → List ℕ} → Row false c n f notice n' f' → IsNamedBy fixed_ops c m notice
      → IsOrderly c n → IsManaged c m n → IsFair c n → IsOnward c (IsElsewhere c) n n'
  onward_by {m = m} {n = n} row of o h fair =
      onward_at row o (descends c m n o h) h.counted
      (λ r bits bytes a l at to asks ne still. none_stays c m n o h fair r bits bytes a l at to asks ne still)
