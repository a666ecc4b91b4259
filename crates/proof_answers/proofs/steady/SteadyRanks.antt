-- In how many rounds a word that waits is answered under steady hints, at most: no step makes them
-- more, each round makes them less, and at first there are four for each other node.
use Rattle.std.proofs.Common.{◌≡◌, ◌⊎◌, ◌<◌, ◌≤◌, ◌+◌, ◌*◌, ℕ, zero, suc, true, false, [], slice_get, refl, sym, ap, ◌∙◌, subst, inl, inr, arith}
use Rattle.std.proofs.lemmas.Bool.{both_ways}
use Rattle.std.proofs.lemmas.Option.{none-some}
use Rattle.ivy_model.specs.declared.Config.{Config}
use Rattle.ivy_wire.specs.declared.Content.TheVariants as content
use Rattle.ivy_wire.specs.stated.Data.{Message}
use Rattle.ivy_pagetable.specs.declared.Entry.{Entry}
use Rattle.ivy_pagetable.specs.declared.Entry.TheVariants as entry
use Rattle.ivy_pagetable.specs.stated.Entries.{is_locked, is_owner}
use Rattle.ivy_pagetable.specs.stated.States.{AwaitWriteState, AwaitAcksState}
use Rattle.ivy_dynamic.specs.stated.Dynamic.{Hints}
use Rattle.proof_table.specs.stated.Letters.{Letter, Net, Place, Underway, Aside, Loose, IsAt}
use Rattle.proof_table.specs.stated.Orderly.{AwaitsCopy, AwaitsPage, IsOrderly}
use Rattle.proof_table.specs.stated.Descending.{GoDown}
use Rattle.proof_table.specs.stated.Sending.{owns, comes as page_comes}
use Rattle.proof_table.specs.stated.Waiting.{IsReadPending, asks_copy, gets_copy, IsWritePending, asks_page, gets_page, IsAwaited}
use Rattle.proof_table.proofs.waiting.Onward.{IsStill, IsAnswered, IsComing, IsOnward}
use Rattle.proof_table.proofs.waiting.Ranks.{IsSoon, AreRecalled, IsBroughtIn, copies, comes, collects as acknowledged, brought_on}
use Rattle.proof_table.proofs.waiting.Restarts.{AreMissed, next_due, all_next, soon_put, no_page, recalled_none, recalled_less, brought_none, brought_less}
use Rattle.proof_answers.specs.late.Late.{IsOut, IsPutOff, HasCome, IsChained, IsLate, begins, PutOffOrders}
use Rattle.proof_answers.specs.late.LateLaws.{IsChainedOn}
use Rattle.proof_answers.proofs.steady.Counted.{AreCounted, counted_all, counted_same, counted_less}
use Rattle.proof_answers.proofs.late.LateSteps.{chained_at}
use Rattle.proof_answers.proofs.steady.Chains.{IsEnd, arrives, gets as end_gets, collects as end_collects, one_each, chain_end}
use Rattle.proof_answers.proofs.steady.Delays.{IsHeld, IsKeptUp, late, free, nears, gets, collects, serves, arrived_come, held_loose, kept_up_on}

module _ (m : ℕ → Hints) (n : Net) (due : ℕ → ℕ → ℕ) (p nodes : ℕ) where
  -- the nodes together keep the request of node `o` up for so many rounds
  abbrev pub AreKeptUp : ℕ → ℕ → Type 0
  AreKeptUp o r = AreCounted (λ x w. IsKeptUp nodes m n due p o x w) nodes r

  -- A word of this node that waits is answered in so many rounds: what it waits for is brought, or
  -- its request is out, and is kept up for three rounds less.
  pub data IsSteadyIn (o r : ℕ) : Type 0 where
    brought : IsBroughtIn n due p 0 o r → IsSteadyIn o r
    asks : IsOut n p o → (k : ℕ) → AreKeptUp o k → k + 3 ≤ r → IsSteadyIn o r

-- what is put off has come, and what has come is put off where none is loose
put_come : (a : Place) → IsPutOff a → HasCome a
put_come (Underway i j k) h = absurd h
put_come (Aside x p k) h = tt
put_come (Loose k) h = tt

come_put : (n : Net) (a : Place) (l : Letter) → IsAt n a l → n.loose ≡ [] → HasCome a → IsPutOff a
come_put n (Underway i j k) l at none h = absurd h
come_put n (Aside x p k) l at none h = tt
come_put n (Loose k) l at none h = absurd (none-some l (ap (λ v. slice_get v k) (sym none) ∙ at))

-- a step
module _ (c : Config) {alone : ℕ → ℕ → Type 0} (m m' : ℕ → Hints) (n n' : Net)
    (on : IsOnward c alone n n') (order : IsOrderly c n) (order' : IsOrderly c n')
    (due : ℕ → ℕ → ℕ) (p o : ℕ)
    (late_on : IsOut n p o → IsOut n' p o → (y : ℕ) → IsLate c.nodes m n p o y
    → IsLate c.nodes m' n' p o y)
    (chain_on : IsOut n' p o → (a : Place) (l : Letter) → IsChained n p o a l
    → IsChainedOn n' p o a l ⊎ IsLate c.nodes m' n' p o l.dest) where
  -- the request is out still
  still_out : (out : IsOut n p o) → IsStill n' out.at out.letter → IsOut n' p o
  still_out out k = record {
    at = k.at;
    letter = k.letter;
    there = k.there;
    asks = subst (λ (v : Message). (v.origin ≡ o)
        × ((v.content ≡ content.ReadReq p) ⊎ (v.content ≡ content.WriteReq p))) (sym k.says)
        out.asks;
  }

  asks_on : (k r : ℕ) → k + 3 ≤ r → AreKeptUp m n due p c.nodes o k → IsOut n p o → IsOut n' p o
      → IsSteadyIn m' n' due p c.nodes o r
  asks_on k r le kept out now =
      asks now k
      (counted_same (λ x w. IsKeptUp c.nodes m n due p o x w)
      (λ x w. IsKeptUp c.nodes m' n' due p o x w) c.nodes
      (λ x w low h.
      kept_up_on c m m' n n' on order order' due p o (late_on out now) (chain_on now) x w h)
      c.nodes k (omega arith) kept) le

  -- a request that is served
  read_served : (out : IsOut n p o) (k r : ℕ) → k + 3 ≤ r → AreKeptUp m n due p c.nodes o k
      → IsAnswered n n' out.letter (content.ReadReq p) → IsSteadyIn m' n' due p c.nodes o r
  read_served out k r le kept (inl sent) =
      brought (copies sent.at sent.letter sent.bytes sent.there (sent.dest ∙ out.asks.0) sent.brings
      (inr (omega (arith, le))))
  read_served out k r le kept (inr further) =
      asks_on k r le kept out (record {
        at = further.asked.at;
        letter = further.asked.letter;
        there = further.asked.there;
        asks = (further.asked.asker ∙ out.asks.0, inl further.asked.asks);
      })

  write_served : (out : IsOut n p o) (k r : ℕ) → k + 3 ≤ r → AreKeptUp m n due p c.nodes o k
      → IsAnswered n n' out.letter (content.WriteReq p) → IsSteadyIn m' n' due p c.nodes o r
  write_served out k r le kept (inl coming) =
      brought (comes (subst (IsComing n' p) out.asks.0 coming) (inr (omega (arith, le))))
  write_served out k r le kept (inr further) =
      asks_on k r le kept out (record {
        at = further.asked.at;
        letter = further.asked.letter;
        there = further.asked.there;
        asks = (further.asked.asker ∙ out.asks.0, inr further.asked.asks);
      })

  pub steady_on : (r : ℕ) → is_locked (n.entry o p) ≡ true → is_locked (n'.entry o p) ≡ true
      → IsSteadyIn m n due p c.nodes o r → IsSteadyIn m' n' due p c.nodes o r
  steady_on r locked on_locked (brought h) =
      brought (brought_on c n n' on order due p 0 o r locked on_locked h)
  steady_on r locked on_locked (asks out k kept le) =
      elim (on.stays out.at out.letter out.there) [
        | inl still ↦ asks_on k r le kept out (still_out out still)
        | inr served ↦ elim out.asks.1 [
          | inl is ↦ read_served out k r le kept (subst (IsAnswered n n' out.letter) is served)
          | inr is ↦ write_served out k r le kept (subst (IsAnswered n n' out.letter) is served)
        ]
      ]

-- The end of a round. What is known of the net then: no letter is loose, requests go down, none of
-- the chain is at a late node, and only orders are put off where a copy is awaited.
module _ (c : Config) (m : ℕ → Hints) (n : Net) (order : IsOrderly c n) (awaited : IsAwaited n)
    (orders : PutOffOrders n) (none : n.loose ≡ []) (p o : ℕ) (height : ℕ → ℕ)
    (down : GoDown n p height) (inside : (a : Place) (l : Letter) → IsAt n a l → l.dest < c.nodes)
    (none_late : (a : Place) (l : Letter) → IsChained n p o a l → IsLate c.nodes m n p o l.dest → ⊥)
  where
    abbrev next : ℕ → ℕ → ℕ
    next = next_due n

    abbrev Then : ℕ → ℕ → Type 0
    Then x w = IsKeptUp c.nodes m n next p o x w

    module _ (due : ℕ → ℕ → ℕ) (ended : (i j : ℕ) → due i j ≤ n.delivered i j)
        (missed : AreMissed n p)
      where
        abbrev Was : ℕ → ℕ → Type 0
        Was x w = IsKeptUp c.nodes m n due p o x w

        -- one of the chain that has come is at a locked entry
        idle_none : (x : ℕ) → IsHeld n p o x → is_locked (n.entry x p) ≡ false → ⊥
        idle_none x held unlocked = held_loose n p o x held unlocked none

        kept_none : (x : ℕ) (s : AwaitAcksState) → n.entry x p ≡ entry.AwaitAcks s
            → AreRecalled n due p 0 0 x → ⊥
        kept_none x s is recalled =
            recalled_none c n order awaited due ended none p 0 missed x (ap is_owner is)
            (ap is_locked is) recalled

        -- no node keeps it up for longer than before
        same : (x w : ℕ) → x < c.nodes → Was x w → Then x w
        same x w low (late is) = late is
        same x w low (free le) = free le
        same x w low (nears a l chained to soon le) =
            nears a l chained to (all_next n a l (chained_at n p o chained)) le
        same x w low (gets s is held k soon le) =
            absurd (no_page c n order awaited due ended none p 0 missed x k soon)
        same x w low (collects zero s is held recalled le) = absurd (kept_none x s is recalled)
        same x w low (collects (suc e) s is held recalled le) =
            collects e s is held
            (recalled_less c n order awaited due ended none p 0 missed e x recalled)
            (omega (arith, le))
        same x w low (serves s is held) = absurd (idle_none x held (ap is_locked is))

        -- the last of the chain
        module _ (a : Place) (l : Letter) (chained : IsChained n p o a l) where
          abbrev Less : ℕ → Type 0
          Less w = (v : ℕ) × (v + 1 ≤ w) × Then l.dest v

          -- it has come if one of the chain has come there, since there is one alone
          held_come : IsHeld n p o l.dest → HasCome a
          held_come held =
              subst HasCome (one_each c n order p o height down held.chained chained held.here)
              held.come

          near_come : (b : Place) (k : Letter) → IsChained n p o b k → k.dest ≡ l.dest
              → IsSoon due b
              → HasCome a
          near_come b k other to soon =
              subst HasCome (one_each c n order p o height down other chained to)
              (arrived_come b
              (soon_put c n order awaited due ended none p 0 missed b k (chained_at n p o other)
              soon).1)

          -- it comes soon then
          arriving : (HasCome a → ⊥) → (w : ℕ) → Was l.dest w → Less w
          arriving away w (late is) = absurd (none_late a l chained is)
          arriving away w (free le) = (
            3,
            omega (arith, le),
            nears a l chained refl (all_next n a l (chained_at n p o chained)) (omega arith),
          )
          arriving away w (nears b k other to soon le) = absurd (away (near_come b k other to soon))
          arriving away w (gets s is held k soon le) = absurd (away (held_come held))
          arriving away w (collects e s is held recalled le) = absurd (away (held_come held))
          arriving away w (serves s is held) = absurd (away (held_come held))

          abbrev here : HasCome a → IsHeld n p o l.dest
          here come = record { at = a; letter = l; chained = chained; come = come; here = refl }

          -- the page comes soon then
          getting : HasCome a → (s : AwaitWriteState) → n.entry l.dest p ≡ entry.AwaitWrite s
              → IsComing n p l.dest → (w : ℕ) → Was l.dest w → Less w
          getting come s is k w was = by_was was
            where
              comes_soon : 3 ≤ w → Less w
              comes_soon le = (
                2,
                omega (arith, le),
                gets s is (here come) k (all_next n k.at k.letter k.there) (omega arith),
              )

              by_was : Was l.dest w → Less w
              by_was (late at) = absurd (none_late a l chained at)
              by_was (free le) = comes_soon (omega (arith, le))
              by_was (nears b j other to soon le) = comes_soon le
              by_was (gets t at held j soon le) =
                  absurd (no_page c n order awaited due ended none p 0 missed l.dest j soon)
              by_was (collects e t at held recalled le) =
                  absurd (both_ways (is_owner (n.entry l.dest p)) (ap is_owner is) (ap is_owner at))
              by_was (serves t at held) = absurd (idle_none l.dest held (ap is_locked at))

          -- the orders come soon then, or the acknowledgements
          collecting : HasCome a → (s : AwaitAcksState) → n.entry l.dest p ≡ entry.AwaitAcks s
              → (w : ℕ) → Was l.dest w → Less w
          collecting come s is w was = by_was was
            where
              orders_soon : 3 ≤ w → Less w
              orders_soon le = (
                2,
                omega (arith, le),
                collects 2 s is (here come) (λ target call missed_by. tt) (omega arith),
              )

              by_was : Was l.dest w → Less w
              by_was (late at) = absurd (none_late a l chained at)
              by_was (free le) = orders_soon (omega (arith, le))
              by_was (nears b j other to soon le) = orders_soon le
              by_was (gets t at held j soon le) =
                  absurd (both_ways (is_owner (n.entry l.dest p)) (ap is_owner at) (ap is_owner is))
              by_was (collects zero t at held recalled le) = absurd (kept_none l.dest t at recalled)
              by_was (collects (suc e) t at held recalled le) = (
                e,
                omega (arith, le),
                collects e t at held
                    (recalled_less c n order awaited due ended none p 0 missed e l.dest recalled)
                    (omega arith),
              )
              by_was (serves t at held) = absurd (idle_none l.dest held (ap is_locked at))

          ending : IsEnd n p a l → (w : ℕ) → Was l.dest w → Less w
          ending (arrives away) w was =
              arriving (λ come. away (come_put n a l (chained_at n p o chained) none come)) w was
          ending (end_gets put s is k) w was = getting (put_come a put) s is k w was
          ending (end_collects put s is) w was = collecting (put_come a put) s is w was

        -- the round that ends kept it up for one round less
        kept_less : IsOut n p o → (k : ℕ) → AreKeptUp m n due p c.nodes o k
            → (s : ℕ) × (s + 1 ≤ k) × AreKeptUp m n next p c.nodes o s
        kept_less out k kept =
            let e = chain_end c n order p o height down awaited orders out.at out.letter out.there
            out.asks in
            counted_less Was Then c.nodes same e.letter.dest 1
            (ending e.at e.letter e.chained e.ends)
            c.nodes k (omega arith)
            (inside e.at e.letter (chained_at n p o e.chained)) kept

        pub steady_none : (s : ℕ) → s ≡ 0 → is_locked (n.entry o p) ≡ true
            → IsSteadyIn m n due p c.nodes o s → ⊥
        steady_none s is shut (brought h) =
            brought_none c n order awaited due ended none p 0 missed o s is shut h
        steady_none s is shut (asks out k kept le) = omega (arith, is, le)

        pub steady_less : (s r : ℕ) → s ≡ suc r → is_locked (n.entry o p) ≡ true
            → IsSteadyIn m n due p c.nodes o s → IsSteadyIn m n next p c.nodes o r
        steady_less s r is shut (brought h) =
            brought (brought_less c n order awaited due ended none p 0 missed o s r is shut h)
        steady_less s r is shut (asks out k kept le) =
            let l = kept_less out k kept in
            let one = l.1 in
            asks out l.0 l.2 (omega (arith, is, le, one))

    -- at first: none by the node that asks, three by where the chain ends, four by each other one
    abbrev First : ℕ → ℕ → Type 0
    First x w = IsLate c.nodes m n p o x ⊎ (4 ≤ w)

    module _ (asker : o < c.nodes) where
      first_kept : IsOut n p o → (s : ℕ) × (s + 5 ≤ 4 * c.nodes) × AreKeptUp m n next p c.nodes o s
      first_kept out =
          let e = chain_end c n order p o height down awaited orders out.at out.letter out.there
          out.asks in
          let all = counted_all (λ x w. 4 ≤ w) 4 (λ x. omega arith) c.nodes in
          let one = counted_less (λ x w. 4 ≤ w) First c.nodes (λ x w low le. inr le) o 4
          (λ w le. (0, le, inl (begins o refl))) c.nodes (4 * c.nodes) (omega arith) asker all in
          let two = counted_less First Then c.nodes
          (λ x w low h. elim h [ inl is ↦ late is | inr le ↦ free le ]) e.letter.dest 1
          (λ w h. elim h [
            | inl is ↦ absurd (none_late e.at e.letter e.chained is)
            | inr le ↦ by_end e.at e.letter e.chained e.ends w le
          ]) c.nodes one.0 (omega arith)
          (inside e.at e.letter (chained_at n p o e.chained)) one.2 in
          let a = one.1 in
          let b = two.1 in
          (two.0, omega (arith, a, b), two.2)
        where
          by_end : (a : Place) (l : Letter) → IsChained n p o a l → IsEnd n p a l → (w : ℕ) → 4 ≤ w
              → (v : ℕ) × (v + 1 ≤ w) × Then l.dest v
          by_end a l chained ends w le = (
            3,
            omega (arith, le),
            nears a l chained refl (all_next n a l (chained_at n p o chained)) (omega arith),
          )

      -- how long a word that waits there waits
      pub steady_first : (r : ℕ) → r + 2 ≡ 4 * c.nodes → 2 ≤ c.nodes
          → is_locked (n.entry o p) ≡ true
          → IsSteadyIn m n next p c.nodes o r
      steady_first r is some shut = by_entry (n.entry o p) refl shut
        where
          asks_first : IsOut n p o → IsSteadyIn m n next p c.nodes o r
          asks_first out =
              let f = first_kept out in
              let le = f.1 in
              asks out f.0 f.2 (omega (arith, is, le))

          by_reader : IsReadPending n o p → IsSteadyIn m n next p c.nodes o r
          by_reader (gets_copy source k) =
              brought (copies k.at k.letter k.bytes k.there k.dest k.brings
              (inr (omega (arith, is, some))))
          by_reader (asks_copy at k) =
              asks_first
              (record {
                at = k.at;
                letter = k.letter;
                there = k.there;
                asks = (k.asker, inl k.asks);
              })

          by_writer : is_owner (n.entry o p) ≡ false → IsWritePending n o p
              → IsSteadyIn m n next p c.nodes o r
          by_writer plain (gets_page (owns h)) =
              absurd (both_ways (is_owner (n.entry o p)) plain h)
          by_writer plain (gets_page (page_comes at l bits bytes there to says)) =
              brought (comes (record {
                at = at;
                letter = l;
                bits = bits;
                bytes = bytes;
                there = there;
                dest = to;
                brings = says;
              }) (inr (omega (arith, is, some))))
          by_writer plain (asks_page at k) =
              asks_first
              (record {
                at = k.at;
                letter = k.letter;
                there = k.there;
                asks = (k.asker, inr k.asks);
              })

          by_entry : (e : Entry) → n.entry o p ≡ e → is_locked e ≡ true
              → IsSteadyIn m n next p c.nodes o r
          by_entry (entry.Idle s) at locked = absurd (let f : false ≡ true = locked in cc)
          by_entry (entry.AwaitRead s) at locked =
              by_reader
              (awaited.readers o p s.call (subst (λ v. AwaitsCopy v s.call) (sym at) refl))
          by_entry (entry.AwaitWrite s) at locked =
              by_writer (ap is_owner at)
              (awaited.writers o p s.waiting.call
              (subst (λ v. AwaitsPage v s.waiting.call) (sym at) refl))
          by_entry (entry.AwaitAcks s) at locked =
              brought (acknowledged 2 (ap is_owner at) (λ target call missed. tt)
              (omega (arith, is, some)))
