-- At no point are two nodes inside by tickets.
use Rattle.std.proofs.Common.{◌≡◌, ℕ, ◌+◌, ◌<◌, ◌≤◌, inl, inr, if◌then◌else◌, List, [], ◌∷◌, ◌++◌}
use Rattle.std.proofs.Common.{Some, None, refl, sym, ap, subst, ◌∙◌, append-nil, arith}
use Rattle.std.specs.Prelude.{slice_get}
use Rattle.std.proofs.lemmas.Bool.{cases_eq, eq-eqb, ne_eqb, cases_lt}
use Rattle.std.proofs.lemmas.Option.{same_Some, none-some}
use Rattle.ivy_model.specs.declared.config.Config.{Config}
use Rattle.ivy_model.specs.declared.call.Call.TheVariants as call
use Rattle.ivy_model.specs.declared.call.CallKind.{CallKind}
use Rattle.ivy_model.specs.declared.call.CallKind.TheVariants.{Word, Count, Advance, Await, Alloc}
use Rattle.ivy_model.specs.declared.call.CallKind.TheVariants.{Free}
use Rattle.ivy_model.specs.declared.call.Record.{Record}
use Rattle.ivy_model.specs.declared.call.Reply.{Reply}
use Rattle.ivy_model.specs.declared.call.Reply.TheVariants.{Done, Refused, Value}
use Rattle.ivy_model.specs.stated.Accesses.{kind_of_call}
use Rattle.ivy_model.specs.stated.Legal.{ServesAll}
use Rattle.ivy_model.specs.stated.Memory.{Memory}
use Rattle.ivy_model.specs.stated.Serves.{Serves, ServesKind}
use Rattle.ivy_calls.specs.declared.answer.Answer.{Answer}
use Rattle.ivy_calls.specs.Answers.{answer, answers_of}
use Rattle.ivy_calls.proofs.Answers.{answers_of-append, answers_of-push_own, answers_of-push_other}
use Rattle.ivy_calls.proofs.Answers.{answers_of-at}
use Rattle.ivy_sync.specs.meeting.Counts.{raised, raised_kind}
use Rattle.ivy_sync.specs.excluding.Tickets.{Ticket, ticket_by, ticket_after, ticket, no_ticket}
use Rattle.ivy_sync.specs.excluding.Tickets.{MayTurn, MayTurnBy, KeepsTickets, TicketsExclude}
use Rattle.ivy_sync.proofs.meeting.Counting.{count_step, awaited}
use Rattle.ivy_sync.proofs.answers.Cuts.{leads_cut}
use Rattle.ivy_sync.proofs.answers.Lists.{one_more}

ticket-append : (k : ℕ) (t : Ticket) (xs ys : List Answer)
    → ticket k t (xs ++ ys) ≡ ticket k (ticket k t xs) ys
ticket-append k t [] ys = refl
ticket-append k t (x ∷ xs) ys = ticket-append k (ticket_after k t x) xs ys

tickets_front : (k : ℕ) (owner : ℕ → ℕ) (i : ℕ) (t : Ticket) (xs ys : List Answer)
    → KeepsTickets k owner i t (xs ++ ys) → KeepsTickets k owner i t xs
tickets_front k owner i t [] ys h = tt
tickets_front k owner i t (x ∷ xs) ys h =
    (h.0, tickets_front k owner i (ticket_after k t x) xs ys h.1)

may_at : (k : ℕ) (owner : ℕ → ℕ) (i : ℕ) (t : Ticket) (xs : List Answer) (r : Answer)
    (ys : List Answer) → KeepsTickets k owner i t (xs ++ r ∷ ys)
    → MayTurn k owner i (ticket k t xs) r
may_at k owner i t [] r ys h = h.0
may_at k owner i t (x ∷ xs) r ys h = may_at k owner i (ticket_after k t x) xs r ys h.1

-- the tickets below the count are used up, and who is inside is so by the next one
pub record IsInTurn (k : ℕ) (owner : ℕ → ℕ) (m : Memory) (rs : List Record) : Type 0 where
  pub count : ℕ
  pub is : slice_get m.counts k ≡ Some count
  pub used : (t : ℕ) → t < count → t < (ticket k no_ticket (answers_of (owner t) rs)).next
  pub one : (i t : ℕ) → (ticket k no_ticket (answers_of i rs)).inside ≡ Some t
      → (t ≡ count) × (owner t ≡ i) × (t < (ticket k no_ticket (answers_of i rs)).next)

module _ (c : Config) (k : ℕ) (owner : ℕ → ℕ) (old new : Memory) (rs : List Record) (r : Record)
    (served : Serves c old r.call r.reply new) (here : IsInTurn k owner old rs) where
  abbrev mine : Ticket
  mine = ticket k no_ticket (answers_of r.node rs)

  abbrev longer : List Record
  longer = rs ++ r ∷ []

  own_ticket : ticket k no_ticket (answers_of r.node longer) ≡ ticket_after k mine (answer r)
  own_ticket =
      ap (ticket k no_ticket) (answers_of-push_own r.node rs r refl)
      ∙ ticket-append k no_ticket (answers_of r.node rs) (answer r ∷ [])

  other_ticket : (i : ℕ) → (r.node ≡ i → ⊥)
      → ticket k no_ticket (answers_of i longer) ≡ ticket k no_ticket (answers_of i rs)
  other_ticket i ne = ap (ticket k no_ticket) (answers_of-push_other i rs r ne)

  counted_on : slice_get new.counts k ≡ Some (here.count + raised k (answer r))
  counted_on = count_step c old new k here.count (answer r) served here.is

  -- nothing happens
  stays : ticket_after k mine (answer r) ≡ mine → raised k (answer r) ≡ 0
      → IsInTurn k owner new longer
  stays e none =
      let same : (i : ℕ) → ticket k no_ticket (answers_of i longer) ≡ ticket k no_ticket
      (answers_of i rs) = λ i.
      elim (cases_eq r.node i) [
        | inl own ↦
            subst (λ x. ticket k no_ticket (answers_of x longer) ≡ ticket k no_ticket
            (answers_of x rs)) own
            (own_ticket ∙ e)
        | inr ne ↦ other_ticket i ne
      ] in
      record {
        count = here.count;
        is = counted_on ∙ ap Some (let k : here.count + raised k (answer r) ≡ here.count = omega
            (arith, none) in k);
        used = λ t l. subst (λ (x : Ticket). t < x.next) (sym (same (owner t))) (here.used t l);
        one = λ i t at.
            let w = here.one i t (ap (λ (x : Ticket). x.inside) (sym (same i)) ∙ at) in
            (w.0, w.1, subst (λ (x : Ticket). t < x.next) (sym (same i)) w.2);
      }

  -- the node comes in by a ticket of its own
  enters : (least : ℕ) → ticket_after k mine (answer r) ≡ record {
    inside = Some least;
    next =
        least + 1;
  }
      → raised k (answer r) ≡ 0 → least ≤ here.count
      → (owner least ≡ r.node) × (mine.next ≤ least) × (mine.inside ≡ None)
      → IsInTurn k owner new longer
  enters least e none reached may =
      let fresh : here.count ≤ least =
      elim (cases_lt least here.count) [
        | inl below ↦
            let u = subst (λ i. least < (ticket k no_ticket (answers_of i rs)).next) may.0
            (here.used least below) in
            let v = may.1 in absurd (omega (arith, u, v))
        | inr le ↦ le
      ] in
      let now : least ≡ here.count = omega (arith, fresh, reached) in
      let mine_now : ticket k no_ticket (answers_of r.node longer) ≡ record {
        inside = Some least;
        next = least + 1;
      } = own_ticket ∙ e in
      record {
        count = here.count;
        is = counted_on ∙ ap Some (let k : here.count + raised k (answer r) ≡ here.count = omega
            (arith, none) in k);
        used = λ t l.
            elim (cases_eq r.node (owner t)) [
              | inl own ↦
                  let later : t < least + 1 = omega (arith, l, now) in
                  subst (λ i. t < (ticket k no_ticket (answers_of i longer)).next) own
                  (subst (λ (x : Ticket). t < x.next) (sym mine_now) later)
              | inr ne ↦
                  subst (λ (x : Ticket). t < x.next) (sym (other_ticket (owner t) ne))
                  (here.used t l)
            ];
        one = λ i t at.
            elim (cases_eq r.node i) [
              | inl own ↦
                  let at' : Some least ≡ Some t =
                  sym (ap (λ (x : Ticket). x.inside) mine_now)
                  ∙ ap (λ x. (ticket k no_ticket (answers_of x longer)).inside) own ∙ at in
                  let same : least ≡ t = same_Some least t at' in
                  let later : t < least + 1 = omega (arith, same) in (
                    sym same ∙ now,
                    ap owner (sym same) ∙ may.0 ∙ own,
                    subst (λ x. t < (ticket k no_ticket (answers_of x longer)).next) own
                        (subst (λ (x : Ticket). t < x.next) (sym mine_now) later),
                  )
              | inr ne ↦
                  let w = here.one i t (ap (λ (x : Ticket). x.inside) (sym (other_ticket i ne)) ∙
                  at) in
                  let same : least ≡ t = now ∙ sym w.0 in
                  absurd (ne (sym may.0 ∙ ap owner same ∙ w.1))
            ];
      }

  -- it goes out
  leaves_by : ticket_after k mine (answer r) ≡ record { inside = None; next = mine.next }
      → raised k (answer r) ≡ 1 → (n : ℕ) → mine.inside ≡ Some n → IsInTurn k owner new longer
  leaves_by e one n inside =
      let w = here.one r.node n inside in
      let mine_now : ticket k no_ticket (answers_of r.node longer) ≡ record {
        inside = None;
        next = mine.next;
      } = own_ticket ∙ e in
      let nobody : (i t : ℕ) → (ticket k no_ticket (answers_of i longer)).inside ≡ Some t → ⊥ =
      λ i t at.
      elim (cases_eq r.node i) [
        | inl own ↦
            none-some t
            (sym (ap (λ (x : Ticket). x.inside) mine_now)
            ∙ ap (λ x. (ticket k no_ticket (answers_of x longer)).inside) own ∙ at)
        | inr ne ↦
            let u = here.one i t (ap (λ (x : Ticket). x.inside) (sym (other_ticket i ne)) ∙ at) in
            ne (sym w.1 ∙ ap owner (w.0 ∙ sym u.0) ∙ u.1)
      ] in
      record {
        count = here.count + 1;
        is = counted_on ∙ ap (λ x. Some (here.count + x)) one;
        used = λ t l.
            elim (cases_eq r.node (owner t)) [
              | inl own ↦
                  let last : t < mine.next =
                  elim (cases_lt t here.count) [
                    | inl below ↦
                        subst (λ i. t < (ticket k no_ticket (answers_of i rs)).next) (sym own)
                        (here.used t below)
                    | inr past ↦
                        let u = w.2 in let v = w.0 in omega (arith, u, v, past, l)
                  ] in
                  subst (λ i. t < (ticket k no_ticket (answers_of i longer)).next) own
                  (subst (λ (x : Ticket). t < x.next) (sym mine_now) last)
              | inr ne ↦
                  elim (cases_lt t here.count) [
                    | inl below ↦
                        subst (λ (x : Ticket). t < x.next) (sym (other_ticket (owner t) ne))
                        (here.used t below)
                    | inr past ↦
                        let v = w.0 in
                        let same : n ≡ t = omega (arith, v, past, l) in
                        absurd (ne (sym w.1 ∙ ap owner same))
                  ]
            ];
        one = λ i t at. absurd (nobody i t at);
      }

  -- by what the call is of, and its reply
  turn_by : (kind : CallKind) (reply : Reply)
      → ticket_after k mine (answer r) ≡ ticket_by k mine kind reply
      → raised k (answer r) ≡ raised_kind k kind reply → ServesKind c old kind reply new
      → MayTurnBy k owner r.node mine kind reply → IsInTurn k owner new longer
  turn_by (Await j least) (Value found) t n by may =
      elim (cases_eq j k) [
        | inl same ↦
            enters least
            (t ∙ ap (λ b. if b then record { inside = Some least; next = least + 1 } else mine)
            (eq-eqb j k same)) n
            (awaited c old new k here.count least found
            (subst (λ x. Serves c old (call.Await x least) (Value found) new) same by) here.is)
            (may same)
        | inr ne ↦
            stays
            (t ∙ ap (λ b. if b then record { inside = Some least; next = least + 1 } else mine)
            (ne_eqb j k ne)) n
      ]
  turn_by (Await j least) Done t n by may = stays t n
  turn_by (Await j least) (Refused code) t n by may = stays t n
  turn_by (Advance j) Done t n by may =
      elim (cases_eq j k) [
        | inl same ↦
            leaves_by
            (t ∙ ap (λ b. if b then record { inside = None; next = mine.next } else mine)
            (eq-eqb j k same))
            (n ∙ ap (λ b. if b then 1 else 0) (eq-eqb j k same)) (may same).0 (may same).1
        | inr ne ↦
            stays
            (t ∙ ap (λ b. if b then record { inside = None; next = mine.next } else mine)
            (ne_eqb j k ne))
            (n ∙ ap (λ b. if b then 1 else 0) (ne_eqb j k ne))
      ]
  turn_by (Advance j) (Value v) t n by may = stays t n
  turn_by (Advance j) (Refused code) t n by may = stays t n
  turn_by (Word width addr does) reply t n by may = stays t n
  turn_by (Count j) reply t n by may = stays t n
  turn_by (Alloc size) reply t n by may = stays t n
  turn_by (Free addr) reply t n by may = stays t n

  pub turn_step : MayTurn k owner r.node mine (answer r) → IsInTurn k owner new longer
  turn_step may = turn_by (kind_of_call r.call) r.reply refl refl served may

turns_on : (c : Config) (k : ℕ) (owner : ℕ → ℕ) (old new : Memory) (xs ys : List Record)
    → ServesAll c old ys new
    → ((i : ℕ) → i < c.nodes → KeepsTickets k owner i no_ticket (answers_of i (xs ++ ys)))
    → IsInTurn k owner old xs → IsInTurn k owner new (xs ++ ys)
turns_on c k owner old new xs [] led rules here =
    subst (λ m. IsInTurn k owner m (xs ++ [])) (sym led)
    (subst (IsInTurn k owner old) (sym (append-nil xs)) here)
turns_on c k owner old new xs (r ∷ rs) led rules here =
    let made = led.1 in
    let next : IsInTurn k owner led.0 (xs ++ r ∷ []) =
    turn_step c k owner old led.0 xs r made.served here
    (may_at k owner r.node no_ticket (answers_of r.node xs) (answer r) (answers_of r.node rs)
    (subst (KeepsTickets k owner r.node no_ticket) (answers_of-at xs r rs)
    (rules r.node made.node))) in
    subst (IsInTurn k owner new) (sym (one_more xs r rs))
    (turns_on c k owner led.0 new (xs ++ r ∷ []) rs led.2
    (λ i l. subst (λ all. KeepsTickets k owner i no_ticket (answers_of i all)) (one_more xs r rs)
    (rules i l))
    next)

pub tickets-exclude : TicketsExclude
tickets-exclude c old new before after k owner led first rules i j n m p q =
    let w = leads_cut c old new before after led in
    let here : IsInTurn k owner w.0 before =
    turns_on c k owner old w.0 [] before w.1
    (λ x l. tickets_front k owner x no_ticket (answers_of x before) (answers_of x after)
    (subst (KeepsTickets k owner x no_ticket) (answers_of-append x before after) (rules x l)))
    (record {
      count = 0;
      is = first;
      used = λ t l. absurd (omega (arith, l));
      one = λ x t at. absurd (none-some t at);
    }) in
    let a = here.one i n p in
    let b = here.one j m q in sym a.1 ∙ ap owner (a.0 ∙ sym b.0) ∙ b.1
