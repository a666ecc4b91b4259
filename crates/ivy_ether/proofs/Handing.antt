-- Calls or pages are handed to a node, and the pass of a site is taken in: the rule is kept.
use Rattle.std.proofs.Common.{◌≡◌, ◌≢◌, inl, inr, ℕ, ◌+◌, ◌<◌, ◌==◌, true, false, true≢false}
use Rattle.std.proofs.Common.{Some, List, [], ◌∷◌, ◌++◌, length, set, slice_get, Contains, refl, sym}
use Rattle.std.proofs.Common.{ap, ◌∙◌, subst, arith, if◌then◌else◌, eq-eqb, append-nil}
use mathlib.Core.Option.{some}
use lib.ListN.{get_elem?}
use Rattle.std.proofs.lemmas.Bool.{cases_eq, ne_eqb}
use Rattle.std.proofs.lemmas.Option.{same_Some, slice_get_cases}
use Rattle.std.proofs.lemmas.List.Elements.{Contains-append_cases, Contains-push_cases}
use Rattle.std.specs.Prelude.{unwrap_or}
use Rattle.crossbeam_queue.specs.Fifo.{Forks, Merges}
use Rattle.crossbeam_queue.proofs.Lists.{set_here, set_else, set_again}
use Rattle.ivy_model.specs.declared.Config.{Config}
use Rattle.ivy_moves.specs.Carrying.{node_changed, IsChangedBy}
use Rattle.ivy_moves.specs.stated.Cores.{Core}
use Rattle.ivy_moves.specs.Marks.{Mark}
use Rattle.ivy_moves.specs.stated.Nodes.{Node}
use Rattle.ivy_moves.specs.stated.Worlds.{World}
use Rattle.ivy_moves.proofs.Carried.{carry_over}
use Rattle.ivy_moves.proofs.Places.{set-there, set-elsewhere}
use Rattle.ivy_ether.specs.Data.{Item}
use Rattle.ivy_ether.specs.Handings.{Handing}
use Rattle.ivy_ether.specs.Views.{Closing, View, newcomer, with_handings, closing_of, with_closed}
use Rattle.ivy_ether.specs.Rule.{total, one_if, is_number, sits, Reported, IsHanding, IsStart}
use Rattle.ivy_ether.specs.Rule.{AreRunParts, IsNode, FitsRun, RuleKept}
use Rattle.ivy_ether.proofs.Advancing.{fits_set, reported_set, item_stays, Goes, advanced}
use Rattle.ivy_ether.proofs.Keeps.{fits_newcomer, forks}
use Rattle.ivy_ether.proofs.ListTotals.{total_set, total-append, in_list}
use Rattle.std.proofs.Common.{length-set, Option, None}
use Rattle.std.specs.Prelude.{IsSome}

-- the node of a pass that has one
pub seat_there : (o : Option ℕ) → IsSome o → (i : ℕ) × (o ≡ Some i)
seat_there None there = absurd (true≢false (sym there))
seat_there (Some i) there = (i, refl)

-- these more for node i, and none for the others
abbrev more_at : ℕ → List Handing → ℕ → List Handing
more_at i more j = if i == j then more else []

more_here : (i j : ℕ) (more : List Handing) → i ≡ j → more_at i more j ≡ more
more_here i j more same = ap (λ b. if b then more else []) (eq-eqb i j same)

more_else : (i j : ℕ) (more : List Handing) → i ≢ j → more_at i more j ≡ []
more_else i j more apart = ap (λ b. if b then more else []) (ne_eqb i j apart)

module _ {C : Type 0} (rules : Core C) (c : Config) (opening : World C)
    (hand : List Handing → C → C) (law : IsHanding rules hand) where
  -- the world in which more was handed to one node
  changed_there : (start : World C) (i : ℕ) (more : List Handing) (n : Node C)
      → slice_get start.nodes i ≡ Some n
      → IsChangedBy (λ j. hand (more_at i more j)) start
      (record start { nodes = set start.nodes i (node_changed (hand more) n) })
  changed_there start i more n at =
      let x : Node C = node_changed (hand more) n in
      record {
        there = λ j m get. elim (cases_eq i j) [
          | inl same ↦
              let is : n ≡ m = same_Some n m (sym at ∙ ap (slice_get start.nodes) same ∙ get) in
              ap (slice_get (set start.nodes i x)) (sym same)
              ∙ set-there start.nodes i x n at
              ∙ ap (λ y. Some (node_changed (hand more) y)) is
              ∙ ap (λ l. Some (node_changed (hand l) m)) (sym (more_here i j more same))
          | inr apart ↦
              set-elsewhere start.nodes i j x apart ∙ get
              ∙ ap (λ core. Some (record { core = core; link = m.link }))
              (sym (law.none m.core)
              ∙ ap (λ l. hand l m.core) (sym (more_else i j more apart)))
        ];
        count = length-set start.nodes i x;
        sent = refl;
        early = refl;
      }

  -- it begins with these and then those
  starts_on : (handings more : ℕ → List Handing) (start start' : World C)
      → IsStart rules c opening hand handings start
      → IsChangedBy (λ j. hand (more j)) start start'
      → IsStart rules c opening hand (λ j. handings j ++ more j) start'
  starts_on handings more start start' is on = record {
    there = λ j n at.
        on.there j (node_changed (hand (handings j)) n) (is.there j n at)
        ∙ ap (λ core. Some (record { core = core; link = n.link }))
        (sym (law.more (handings j) (more j) n.core));
    count = on.count ∙ is.count;
    sent = on.sent ∙ is.sent;
    early = on.early ∙ is.early;
  }

  node_there : (start : World C) (i : ℕ) → i < length start.nodes
      → (n : Node C) × (slice_get start.nodes i ≡ Some n)
  node_there start i inside = elim (slice_get_cases start.nodes i).1 [
    | inl x ↦ (x.0, x.2)
    | inr x ↦ absurd (let past = x.0 in omega (arith, inside, past))
  ]

  -- the run goes on with them
  grows : (handings : ℕ → List Handing) (parts : ℕ → List Mark) (end : World C) (i : ℕ) (more : List Handing)
      → AreRunParts rules c opening hand handings parts end → i < length opening.nodes
      → Goes rules c opening hand handings (λ j. handings j ++ more_at i more j) parts parts end i
  grows handings parts end i more run inside =
      let count = run.starts.count in
      let n = node_there run.start i (omega (arith, inside, count)) in
      let above = changed_there run.start i more n.0 n.1 in
      let start' : World C = record run.start { nodes = set run.start.nodes i (node_changed (hand more) n.0) } in
      let carried = carry_over rules c (λ j. hand (more_at i more j))
      (λ j. law.unseen (more_at i more j)) run.start end parts run.run start' above in
      record {
        end = carried.0;
        run = record {
          start = start';
          starts = starts_on handings (more_at i more) run.start start' run.starts above;
          run = carried.1;
        };
        more = λ s contained. subst (λ l. Contains l s) (sym carried.2.sent) contained;
        others = λ j apart.
            (refl, ap (λ l. handings j ++ l) (more_else i j more apart) ∙ append-nil (handings j));
      }

  -- they are handed to the pass's node
  handed : (p : ℕ) (v : View) (i : ℕ) (more : List Handing) (items : List Item) (views : List View)
      → v.node ≡ Some i → v.reported ≡ false → RuleKept rules c opening hand items views
      → get_elem? views p ≡ some v
      → RuleKept rules c opening hand items (set views p (with_handings v more))
  handed p v i more items views sitting unreported k at =
      let kept = k.4 in
      let mine = kept.fits p v at in
      let own = mine.sitting i sitting in
      let on = grows kept.handings k.2 k.3 i more kept.run own.inside in
      let handings' : ℕ → List Handing = (λ j. kept.handings j ++ more_at i more j) in
      let a = advanced rules c opening hand items views k.0 k.1 k.2 k.3 p v i handings' k.2
      (v.handed ++ more) v.events v.took v.put v.items v.reported kept at sitting unreported on
      own.part
      (ap (λ l. l ++ more_at i more i) own.handed
      ∙ ap (λ l. v.handed ++ l) (more_here i i more refl))
      (λ s contained. on.more s (mine.took s contained)) in (
        k.0,
        k.1,
        k.2,
        on.end,
        record {
          handings = handings';
          run = on.run;
          seats = λ j. let x = a.seats j in let y = kept.seats j in omega arith;
          once = kept.once;
          fresh = a.fresh;
          fits = a.fits;
          holds = λ x contained. item_stays rules c opening hand k.3 on.end views
              (set views p (with_handings v more)) on.more a.stays x (kept.holds x contained);
        },
      )

  -- and a newcomer comes beside it
  pub hands : (p : ℕ) (v : View) (i : ℕ) (more : List Handing) → v.node ≡ Some i → v.reported ≡ false
      → Forks (RuleKept rules c opening hand) p v (with_handings v more) newcomer
  hands p v i more sitting unreported items views k at =
      let w : View = with_handings v more in
      let now : List View = set views p w in
      let here : get_elem? now p ≡ some w = set_here views p w (in_list views p v at) in
      subst (λ (l : List View). RuleKept rules c opening hand items (l ++ newcomer ∷ []))
      (set_again now p w here)
      (forks rules c opening hand p w items now
      (handed p v i more items views sitting unreported k at) here)

  -- the pass of a site is taken in
  pub closes : (p : ℕ) (v : View) (q : ℕ) (site : View) (i : ℕ) → site.node ≡ Some i
      → site.reported ≡ false
      → Merges (RuleKept rules c opening hand) p v q site (with_closed v site) newcomer
  closes p v q site i sitting unreported items views k at apart at' =
      let kept = k.4 in
      let mine = kept.fits p v at in
      let there : get_elem? views q ≡ some site = sym (set_else views p q both apart) ∙ at' in
      let its = kept.fits q site there in
      let same : (j : ℕ) → total (sits j) views' ≡ total (sits j) views =
      (λ j.
      let one = total_set (sits j) views p v both at in
      let two = total_set (sits j) mid q site newcomer at' in
      let first = total-append (at_node j) (v.closed ++ site.closed) (closing_of site ∷ []) in
      let second = total-append (at_node j) v.closed site.closed in
      let node : one_if (unwrap_or site.node 0 == j) ≡ one_if (i == j) =
      ap (λ o. one_if (unwrap_or o 0 == j)) sitting in
      let number : is_number j site.node ≡ one_if (i == j) = ap (is_number j) sitting in
      omega arith) in
      let stays : (j : ℕ) (l : List Mark) → Reported views j l → Reported views' j l =
      (λ j l r. reported_set mid q site newcomer j l at'
      (λ _ yes _. absurd (true≢false (sym yes ∙ unreported)))
      (reported_set views p v both j l at (λ a b d. (a, b, d)) r)) in (
        k.0,
        k.1,
        k.2,
        k.3,
        record {
          handings = kept.handings;
          run = kept.run;
          seats = λ j. let x = same j in let y = kept.seats j in omega arith;
          once = kept.once;
          fresh = λ j z. kept.fresh j (sym (same j) ∙ z);
          fits = fits_set
              (λ r u. FitsRun rules c opening hand k.0 k.1 kept.handings k.2 k.3 views' r u) mid q newcomer
              (λ r u _ e. fits_set
              (λ r u. FitsRun rules c opening hand k.0 k.1 kept.handings k.2 k.3 views' r u) views p both
              (λ r u n e. let f = kept.fits r u e in record {
                starts = f.starts;
                sitting = f.sitting;
                closed = f.closed;
                took = f.took;
                reports = λ j l contained. stays j l (f.reports j l contained);
              })
              record {
                starts = mine.starts;
                sitting = mine.sitting;
                closed = λ x contained.
                    elim (Contains-push_cases (v.closed ++ site.closed) (closing_of site) x contained) [
                      | inl was ↦ elim (Contains-append_cases v.closed site.closed x was) [
                        | inl here ↦ mine.closed x here
                        | inr other ↦ its.closed x other
                      ]
                      | inr is ↦ subst
                          (λ (y : Closing). IsNode rules c opening hand kept.handings k.2 y.node y.handed y.events)
                          is
                          (subst
                          (λ (y : ℕ). IsNode rules c opening hand kept.handings k.2 y site.handed site.events)
                          (sym (ap (λ o. unwrap_or o 0) sitting)) (its.sitting i sitting))
                    ];
                took = mine.took;
                reports = λ j l contained. stays j l (mine.reports j l contained);
              }
              r u e)
              (fits_newcomer rules c opening hand k.0 k.1 kept.handings k.2 k.3 views' q);
          holds = λ y contained. item_stays rules c opening hand k.3 k.3 views views' (λ s h. h) stays y
              (kept.holds y contained);
        },
      )
    where
      both : View
      both = with_closed v site

      mid : List View
      mid = set views p both

      views' : List View
      views' = set mid q newcomer

      at_node : ℕ → Closing → ℕ
      at_node j x = one_if (x.node == j)
