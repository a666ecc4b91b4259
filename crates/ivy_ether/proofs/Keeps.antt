-- Each step keeps the rule.
use Rattle.std.proofs.Common.{◌≡◌, ◌≢◌, ◌⊎◌, inl, inr, ℕ, zero, suc, ◌+◌, ◌<◌, ◌==◌}
use Rattle.std.proofs.Common.{true, false, true≢false, Some, None, List, [], ◌∷◌, ◌++◌}
use Rattle.std.proofs.Common.{length, set, Contains, refl, sym, ap, ◌∙◌, subst, arith, eq-eqb}
use mathlib.Core.Option.{some, some-injective, some-ne-none}
use lib.ListN.{get_elem?}
use Rattle.std.proofs.lemmas.Bool.{cases_eq, ne_eqb}
use Rattle.std.proofs.lemmas.Option.{none-some, same_Some}
use Rattle.std.proofs.lemmas.List.Elements.{Contains-append_cases, Contains-push_cases}
use Rattle.crossbeam_queue.specs.Fifo.{Pushes, Pops, Forks, Learns}
use Rattle.crossbeam_queue.proofs.Lists.{set_here, set_again, at_snoc, at_longer}
use Rattle.ivy_model.specs.declared.Config.{Config}
use Rattle.ivy_moves.specs.stated.Cores.{Core}
use Rattle.ivy_moves.specs.Marks.{Mark}
use Rattle.ivy_moves.specs.Listed.{Listed}
use Rattle.ivy_moves.specs.stated.Worlds.{World}
use Rattle.ivy_moves.proofs.Splitting.{none-in}
use Rattle.ivy_ether.specs.Data.{Item}
use Rattle.ivy_ether.specs.declared.item.Item.TheVariants.{Seat, Frame, Report}
use Rattle.ivy_ether.specs.Handings.{Handing}
use Rattle.ivy_ether.specs.Views.{View, newcomer, beginner, with_put, with_taken, with_report}
use Rattle.ivy_ether.specs.Views.{with_issued, with_seat, with_given, with_told, after_seat}
use Rattle.ivy_ether.specs.Views.{view_after_told}
use Rattle.ivy_ether.specs.Items.{strings_in}
use Rattle.ivy_ether.specs.Going.{Sends}
use Rattle.ivy_ether.specs.Rule.{total, one_if, is_number, sits, seat_in, times, Reported, IsHanding}
use Rattle.ivy_ether.specs.Rule.{IsStart, IsNode, FitsRun, FitsItem, RuleHolds, RuleKept, RuleAllows}
use Rattle.ivy_ether.specs.Rule.{ListSends, RuleRuns, RuleTold}
use Rattle.ivy_ether.proofs.Advancing.{fits_set, reported_set, contains_next, contains_first}
use Rattle.ivy_ether.proofs.Advancing.{item_stays, same_start, list_over, advance}
use Rattle.ivy_ether.proofs.ListTotals.{total_set, total-append, in_list}

off : false ≡ true → ⊥
off e = true≢false (sym e)

module _ {C : Type 0} (rules : Core C) (c : Config) (opening : World C)
    (hand : List Handing → C → C) where
  -- what the events of the pass's node send, they send in the run
  sends_there : (items : List Item) (views : List View) (starter : ℕ) (issued : List ℕ)
      (parts : ℕ → List Mark) (end : World C) (p : ℕ) (v : View) (es : List Mark) (b : List ℕ)
      (k : RuleHolds rules c opening hand items views starter issued parts end)
      → get_elem? views p ≡ some v → (s : ListSends rules c opening hand v es b)
      → Sends rules c k.run.start s.node es b
  sends_there items views starter issued parts end p v es b k at s =
      let own = (k.fits p v at).sitting s.node s.sits in
      let there = same_start rules c opening hand s.at.handings k.handings s.at.start k.run.start s.node
      s.at.starts k.run.starts (s.at.own ∙ sym own.handed) in
      record {
        effect = s.sends.effect;
        list = list_over rules c opening hand s.at.start k.run.start s.node es s.sends.effect there
            s.sends.list;
        sent = s.sends.sent;
      }

  -- a frame that the events send, or that the pass took, joins
  pub puts : (n p : ℕ) (v : View) (b : List ℕ) (es : List Mark)
      → RuleAllows rules c opening hand v es → ListSends rules c opening hand v es b ⊎ Contains v.took b
      → Pushes (RuleKept rules c opening hand) n p v (Frame b) (λ w. w ≡ with_put v es (b ∷ []))
  puts n p v b es may from items views room k at =
      let kept = k.4 in
      let mine = kept.fits p v at in
      let a = advance rules c opening hand items views k.0 k.1 k.2 k.3 p v es v.took (v.put ++ b ∷ []) v.items v.reported
      kept at may mine.took in
      let w = with_put v es (b ∷ []) in
      let there : Contains a.end.sent b = elim from [
        | inl sends ↦ a.own b (subst (λ i. Sends rules c kept.run.start i es b)
            (same_Some sends.node may.node (sym sends.sits ∙ may.sits))
            (sends_there items views k.0 k.1 k.2 k.3 p v es b kept at sends))
        | inr taken ↦ a.more b (mine.took b taken)
      ] in (
        w,
        (
          k.0,
          k.1,
          a.parts,
          a.end,
          record {
            handings = kept.handings;
            run = a.run;
            seats = λ j. let x = a.on.seats j in let y = kept.seats j in
                let z = total-append (seat_in j) items (Frame b ∷ []) in omega arith;
            once = kept.once;
            fresh = a.on.fresh;
            fits = a.on.fits;
            holds = λ x contained. elim (Contains-push_cases items (Frame b) x contained) [
              | inl was ↦
                  item_stays rules c opening hand k.3 a.end views (set views p w) a.more a.on.stays x (kept.holds x was)
              | inr is ↦ subst (FitsItem rules c opening hand a.end (set views p w)) is there
            ];
          },
        ),
        refl,
      )

  string_sent : (end : World C) (views : List View) (x : Item)
      → FitsItem rules c opening hand end views x
      → (s : List ℕ) → Contains (strings_in x) s → Contains end.sent s
  string_sent end views (Seat i) h s contained = absurd (none-in s contained)
  string_sent end views (Frame b) h s contained = elim (Contains-push_cases [] b s contained) [
    | inl was ↦ absurd (none-in s was)
    | inr is ↦ subst (Contains end.sent) is h
  ]
  string_sent end views (Report i es) h s contained = absurd (none-in s contained)

  -- an item leaves
  pub takes : (p : ℕ) (v : View) (es : List Mark) → RuleAllows rules c opening hand v es
      → Pops (RuleKept rules c opening hand) p v (λ x w. w ≡ with_taken v es x)
  takes p v es may x items views k at =
      let kept = k.4 in
      let mine = kept.fits p v at in
      let first = kept.holds x (contains_first x items) in
      let a = advance rules c opening hand (x ∷ items) views k.0 k.1 k.2 k.3 p v es (v.took ++ strings_in x) v.put
      (v.items ++ x ∷ []) v.reported kept at may
      (λ s contained. elim (Contains-append_cases v.took (strings_in x) s contained) [
        | inl was ↦ mine.took s was
        | inr new ↦ string_sent k.3 views x first s new
      ]) in
      let w = with_taken v es x in (
        w,
        (
          k.0,
          k.1,
          a.parts,
          a.end,
          record {
            handings = kept.handings;
            run = a.run;
            seats = λ j. let e = a.on.seats j in let y = kept.seats j in omega arith;
            once = kept.once;
            fresh = a.on.fresh;
            fits = a.on.fits;
            holds = λ y contained. item_stays rules c opening hand k.3 a.end views (set views p w) a.more a.on.stays y
                (kept.holds y (contains_next x items y contained));
          },
        ),
        refl,
      )

  -- a report joins
  pub reports : (n p : ℕ) (v : View) (i : ℕ) (es : Listed)
      (may : RuleAllows rules c opening hand v es.marks)
      → i ≡ may.node
      → Pushes (RuleKept rules c opening hand) n p v (Report i es) (λ w. w ≡ with_report v es.marks)
  reports n p v i es may is items views room k at =
      let kept = k.4 in
      let mine = kept.fits p v at in
      let a = advance rules c opening hand items views k.0 k.1 k.2 k.3 p v es.marks v.took v.put v.items true kept at may
      mine.took in
      let w = with_report v es.marks in
      let told : Reported (set views p w) i es.marks = record {
        pass = p;
        view = w;
        there = set_here views p w (in_list views p v at);
        node = may.sits ∙ ap Some (sym is);
        reported = refl;
        events = refl;
      } in (
        w,
        (
          k.0,
          k.1,
          a.parts,
          a.end,
          record {
            handings = kept.handings;
            run = a.run;
            seats = λ j. let x = a.on.seats j in let y = kept.seats j in
                let z = total-append (seat_in j) items (Report i es ∷ []) in omega arith;
            once = kept.once;
            fresh = a.on.fresh;
            fits = a.on.fits;
            holds = λ x contained. elim (Contains-push_cases items (Report i es) x contained) [
              | inl was ↦
                  item_stays rules c opening hand k.3 a.end views (set views p w) a.more a.on.stays x (kept.holds x was)
              | inr same ↦ subst (FitsItem rules c opening hand a.end (set views p w)) same told
            ];
          },
        ),
        refl,
      )

  -- a seat is issued
  pub issues : (n p : ℕ) (v : View) (i : ℕ) → v.starts ≡ true → i < length opening.nodes
      → times i v.issued ≡ 0
      → Pushes (RuleKept rules c opening hand) n p v (Seat i) (λ w. w ≡ with_issued v i)
  issues n p v i starts within new items views room k at =
      let kept = k.4 in
      let mine = kept.fits p v at in
      let w = with_issued v i in
      let views' = set views p w in
      let here = mine.starts starts in
      let issued' = k.1 ++ i ∷ [] in
      let stays : (j : ℕ) (l : List Mark) → Reported views j l → Reported views' j l =
      (λ j l. reported_set views p v w j l at (λ a b d. (a, b, d))) in
      let same : (j : ℕ) → total (sits j) views' ≡ total (sits j) views =
      (λ j. let t = total_set (sits j) views p v w at in omega arith) in
      let none : times i k.1 ≡ 0 = ap (times i) (sym here.1) ∙ new in
      let grows : (j : ℕ) → times j issued' ≡ times j k.1 + one_if (i == j) =
      (λ j. let t = total-append (λ x. one_if (x == j)) k.1 (i ∷ []) in omega arith) in (
        w,
        (
          k.0,
          issued',
          k.2,
          k.3,
          record {
            handings = kept.handings;
            run = kept.run;
            seats = λ j. let x = same j in let y = kept.seats j in
                let z = total-append (seat_in j) items (Seat i ∷ []) in let g = grows j in
                omega arith;
            once = λ j. let g = grows j in let o = kept.once j in elim (cases_eq i j) [
              | inl e ↦
                  let z : times j k.1 ≡ 0 = ap (λ x. times x k.1) (sym e) ∙ none in
                  let b : one_if (i == j) ≡ 1 = ap one_if (eq-eqb i j e) in omega arith
              | inr d ↦ let b : one_if (i == j) ≡ 0 = ap one_if (ne_eqb i j d) in omega arith
            ];
            fresh = λ j z. kept.fresh j (sym (same j) ∙ z);
            fits = fits_set (λ q u. FitsRun rules c opening hand k.0 issued' kept.handings k.2 k.3 views' q u) views p w
                (λ q u n e. let f = kept.fits q u e in record {
                  starts = λ s. absurd (n ((f.starts s).0 ∙ sym here.0));
                  sitting = f.sitting;
                  closed = f.closed;
                  took = f.took;
                  reports = λ j l contained. stays j l (f.reports j l contained);
                })
                record {
                  starts = λ _. (here.0, ap (λ l. l ++ i ∷ []) here.1);
                  sitting = mine.sitting;
                  closed = mine.closed;
                  took = mine.took;
                  reports = λ j l contained. stays j l (mine.reports j l contained);
                };
            holds = λ x contained. elim (Contains-push_cases items (Seat i) x contained) [
              | inl was ↦ item_stays rules c opening hand k.3 k.3 views views' (λ s h. h) stays x (kept.holds x was)
              | inr is ↦ subst (FitsItem rules c opening hand k.3 views') is within
            ];
          },
        ),
        refl,
      )

  -- an item leaves and the view stays
  leaves : (p : ℕ) (v : View) (x : Item) (items : List Item) (views : List View)
      → RuleKept rules c opening hand (x ∷ items) views → get_elem? views p ≡ some v
      → RuleKept rules c opening hand items (set views p v)
  leaves p v x items views k at =
      let kept = k.4 in
      subst (λ (l : List View). RuleKept rules c opening hand items l) (sym (set_again views p v at)) (
        k.0,
        k.1,
        k.2,
        k.3,
        record {
          handings = kept.handings;
          run = kept.run;
          seats = λ j. let y = kept.seats j in omega arith;
          once = kept.once;
          fresh = kept.fresh;
          fits = kept.fits;
          holds = λ y contained. kept.holds y (contains_next x items y contained);
        },
      )

  -- a seat is taken
  pub seats : (p : ℕ) (v : View) → v.node ≡ None
      → Pops (RuleKept rules c opening hand) p v (λ x w. w ≡ after_seat v x)
  seats p v none (Frame b) items views k at = (v, leaves p v (Frame b) items views k at, refl)
  seats p v none (Report i es) items views k at =
      (v, leaves p v (Report i es) items views k at, refl)
  seats p v none (Seat i) items views k at =
      let kept = k.4 in
      let mine = kept.fits p v at in
      let w = with_seat v i in
      let views' = set views p w in
      let within : i < length opening.nodes = kept.holds (Seat i) (contains_first (Seat i) items) in
      let before : (j : ℕ) → is_number j v.node ≡ 0 = (λ j. ap (is_number j) none) in
      let one : one_if (i == i) ≡ 1 = ap one_if (eq-eqb i i refl) in
      let changed : (j : ℕ) → total (sits j) views' ≡ total (sits j) views + one_if (i == j) =
      (λ j. let t = total_set (sits j) views p v w at in let z = before j in omega arith) in
      let empty : total (sits i) views ≡ 0 =
      (let s = kept.seats i in let o = kept.once i in omega arith) in
      let stays : (j : ℕ) (l : List Mark) → Reported views j l → Reported views' j l =
      (λ j l. reported_set views p v w j l at (λ a _ _. absurd (none-some j (sym none ∙ a)))) in (
        w,
        (
          k.0,
          k.1,
          k.2,
          k.3,
          record {
            handings = kept.handings;
            run = kept.run;
            seats = λ j. let y = kept.seats j in let d = changed j in omega arith;
            once = kept.once;
            fresh = λ j z. let d = changed j in kept.fresh j (omega arith);
            fits = fits_set (λ q u. FitsRun rules c opening hand k.0 k.1 kept.handings k.2 k.3 views' q u) views p w
                (λ q u n e. let f = kept.fits q u e in record {
                  starts = f.starts;
                  sitting = f.sitting;
                  closed = f.closed;
                  took = f.took;
                  reports = λ j l contained. stays j l (f.reports j l contained);
                })
                record {
                  starts = mine.starts;
                  sitting = λ j node. let same : i ≡ j = same_Some i j node in
                      subst (λ (y : ℕ). IsNode rules c opening hand kept.handings k.2 y [] []) same
                      (let f = kept.fresh i empty in
                      record { inside = within; part = f.0; handed = f.1 });
                  closed = mine.closed;
                  took = λ s contained. absurd (none-in s contained);
                  reports = λ j l contained. stays j l (mine.reports j l contained);
                };
            holds = λ y contained. item_stays rules c opening hand k.3 k.3 views views' (λ s h. h) stays y
                (kept.holds y (contains_next (Seat i) items y contained));
          },
        ),
        refl,
      )

  -- the starter takes a report
  pub tells : (p : ℕ) (v : View) → Pops (RuleKept rules c opening hand) p v (λ x w. w ≡ view_after_told v x)
  tells p v (Frame b) items views k at = (v, leaves p v (Frame b) items views k at, refl)
  tells p v (Seat i) items views k at = (v, leaves p v (Seat i) items views k at, refl)
  tells p v (Report i es) items views k at =
      let kept = k.4 in
      let mine = kept.fits p v at in
      let told = kept.holds (Report i es) (contains_first (Report i es) items) in
      let w = with_told v i es.marks in
      let views' = set views p w in
      let stays : (j : ℕ) (l : List Mark) → Reported views j l → Reported views' j l =
      (λ j l. reported_set views p v w j l at (λ a b d. (a, b, d))) in
      let same : (j : ℕ) → total (sits j) views' ≡ total (sits j) views =
      (λ j. let t = total_set (sits j) views p v w at in omega arith) in (
        w,
        (
          k.0,
          k.1,
          k.2,
          k.3,
          record {
            handings = kept.handings;
            run = kept.run;
            seats = λ j. let x = same j in let y = kept.seats j in omega arith;
            once = kept.once;
            fresh = λ j z. kept.fresh j (sym (same j) ∙ z);
            fits = fits_set (λ q u. FitsRun rules c opening hand k.0 k.1 kept.handings k.2 k.3 views' q u) views p w
                (λ q u n e. let f = kept.fits q u e in record {
                  starts = f.starts;
                  sitting = f.sitting;
                  closed = f.closed;
                  took = f.took;
                  reports = λ j l contained. stays j l (f.reports j l contained);
                })
                record {
                  starts = mine.starts;
                  sitting = mine.sitting;
                  closed = mine.closed;
                  took = mine.took;
                  reports = λ j l contained.
                      elim (Contains-push_cases v.reports (i, es.marks) (j, l) contained) [
                        | inl was ↦ stays j l (mine.reports j l was)
                        | inr is ↦ subst (λ (y : ℕ × List Mark). Reported views' y.0 y.1) is
                            (stays i es.marks told)
                      ];
                };
            holds = λ y contained. item_stays rules c opening hand k.3 k.3 views views' (λ s h. h) stays y
                (kept.holds y (contains_next (Report i es) items y contained));
          },
        ),
        refl,
      )

  -- a pass notes what came of a step
  noted : (p : ℕ) (v : View) (refused : List (List ℕ)) (empty : ℕ) (items : List Item)
      (views : List View) → RuleKept rules c opening hand items views → get_elem? views p ≡ some v
      → RuleKept rules c opening hand items
      (set views p (record v { refused = refused; empty = empty }))
  noted p v refused empty items views k at =
      let kept = k.4 in
      let mine = kept.fits p v at in
      let w : View = record v { refused = refused; empty = empty } in
      let views' = set views p w in
      let stays : (j : ℕ) (l : List Mark) → Reported views j l → Reported views' j l =
      (λ j l. reported_set views p v w j l at (λ a b d. (a, b, d))) in
      let same : (j : ℕ) → total (sits j) views' ≡ total (sits j) views =
      (λ j. let t = total_set (sits j) views p v w at in omega arith) in (
        k.0,
        k.1,
        k.2,
        k.3,
        record {
          handings = kept.handings;
          run = kept.run;
          seats = λ j. let x = same j in let y = kept.seats j in omega arith;
          once = kept.once;
          fresh = λ j z. kept.fresh j (sym (same j) ∙ z);
          fits = fits_set (λ q u. FitsRun rules c opening hand k.0 k.1 kept.handings k.2 k.3 views' q u) views p w
              (λ q u n e. let f = kept.fits q u e in record {
                starts = f.starts;
                sitting = f.sitting;
                closed = f.closed;
                took = f.took;
                reports = λ j l contained. stays j l (f.reports j l contained);
              })
              record {
                starts = mine.starts;
                sitting = mine.sitting;
                closed = mine.closed;
                took = mine.took;
                reports = λ j l contained. stays j l (mine.reports j l contained);
              };
          holds = λ y contained. item_stays rules c opening hand k.3 k.3 views views' (λ s h. h) stays y
              (kept.holds y contained);
        },
      )

  -- what the run so far is to a pass
  pub learns_run : (p : ℕ) (v : View)
      → Learns (RuleKept rules c opening hand) p v (λ items. RuleRuns rules c opening hand v)
  learns_run p v items views k at =
      let kept = k.4 in
      let mine = kept.fits p v at in record {
        handings = kept.handings;
        parts = k.2;
        end = k.3;
        run = kept.run;
        own = mine.sitting;
        took = mine.took;
      }

  -- what the starter's reports tell, and the passes that it took in
  pub learns : (p : ℕ) (v : View)
      → Learns (RuleKept rules c opening hand) p v (λ items. RuleTold rules c opening hand v)
  learns p v items views k at =
      let kept = k.4 in
      let mine = kept.fits p v at in
      record {
        handings = kept.handings;
        parts = k.2;
        end = k.3;
        run = kept.run;
        told = λ i es contained.
            let r = mine.reports i es contained in
            ((kept.fits r.pass r.view r.there).sitting i r.node).part ∙ r.events;
        closed = mine.closed;
      }

  pub fits_newcomer : (starter : ℕ) (issued : List ℕ) (handings : ℕ → List Handing)
      (parts : ℕ → List Mark) (end : World C) (views : List View) (q : ℕ)
      → FitsRun rules c opening hand starter issued handings parts end views q newcomer
  fits_newcomer starter issued handings parts end views q = record {
    starts = λ e. absurd (off e);
    sitting = λ i e. absurd (none-some i e);
    closed = λ x contained. absurd (none-in x contained);
    took = λ s contained. absurd (none-in s contained);
    reports = λ i l contained. absurd (none-in (i, l) contained);
  }

  -- a pass gives its site's list, and does nothing else
  given : (p : ℕ) (v : View) (es : List Mark) (items : List Item) (views : List View)
      → RuleAllows rules c opening hand v es → RuleKept rules c opening hand items views
      → get_elem? views p ≡ some v
      → RuleKept rules c opening hand items (set views p (with_given v es))
  given p v es items views may k at =
      let kept = k.4 in
      let mine = kept.fits p v at in
      let a = advance rules c opening hand items views k.0 k.1 k.2 k.3 p v es v.took v.put v.items
      v.reported kept at may mine.took in (
        k.0,
        k.1,
        a.parts,
        a.end,
        record {
          handings = kept.handings;
          run = a.run;
          seats = λ j. let x = a.on.seats j in let y = kept.seats j in omega arith;
          once = kept.once;
          fresh = a.on.fresh;
          fits = a.on.fits;
          holds = λ x contained. item_stays rules c opening hand k.3 a.end views
              (set views p (with_given v es)) a.more a.on.stays x (kept.holds x contained);
        },
      )

  -- a newcomer
  pub forks : (p : ℕ) (v : View) → Forks (RuleKept rules c opening hand) p v v newcomer
  forks p v items views k at =
      let kept = k.4 in
      let now : List View = set views p v in
      let same : now ≡ views = set_again views p v at in
      let views' : List View = views ++ newcomer ∷ [] in
      let stays : (j : ℕ) (l : List Mark) → Reported views j l → Reported views' j l =
      (λ j l r. record {
        pass = r.pass;
        view = r.view;
        there = at_longer views (newcomer ∷ []) r.pass r.view r.there;
        node = r.node;
        reported = r.reported;
        events = r.events;
      }) in
      let sums : (j : ℕ) → total (sits j) views' ≡ total (sits j) views =
      (λ j. let t = total-append (sits j) views (newcomer ∷ []) in omega arith) in
      subst (λ (l : List View). RuleKept rules c opening hand items (l ++ newcomer ∷ [])) (sym same) (
        k.0,
        k.1,
        k.2,
        k.3,
        record {
          handings = kept.handings;
          run = kept.run;
          seats = λ j. let y = kept.seats j in let s = sums j in omega arith;
          once = kept.once;
          fresh = λ j z. kept.fresh j (sym (sums j) ∙ z);
          fits = λ q u e. elim (at_snoc views newcomer u q e) [
            | inl was ↦ let f = kept.fits q u was in record {
              starts = f.starts;
              sitting = f.sitting;
              closed = f.closed;
              took = f.took;
              reports = λ j l contained. stays j l (f.reports j l contained);
            }
            | inr is ↦ subst (λ (x : View). FitsRun rules c opening hand k.0 k.1 kept.handings k.2 k.3 views' q x) is
                (fits_newcomer k.0 k.1 kept.handings k.2 k.3 views' q)
          ];
          holds = λ x contained. item_stays rules c opening hand k.3 k.3 views views' (λ s h. h) stays x
              (kept.holds x contained);
        },
      )

  -- and one beside a pass that notes what came of a step
  pub notes : (p : ℕ) (v : View) (refused : List (List ℕ)) (empty : ℕ)
      → Forks (RuleKept rules c opening hand) p v (record v { refused = refused; empty = empty })
      newcomer
  notes p v refused empty items views k at =
      let w : View = record v { refused = refused; empty = empty } in
      let now : List View = set views p w in
      let here : get_elem? now p ≡ some w = set_here views p w (in_list views p v at) in
      subst (λ (l : List View). RuleKept rules c opening hand items (l ++ newcomer ∷ []))
      (set_again now p w here)
      (forks p w items now (noted p v refused empty items views k at) here)

  -- and one beside a pass that gives its list
  pub gives : (p : ℕ) (v : View) (es : List Mark) → RuleAllows rules c opening hand v es
      → Forks (RuleKept rules c opening hand) p v (with_given v es) newcomer
  gives p v es may items views k at =
      let w : View = with_given v es in
      let now : List View = set views p w in
      let here : get_elem? now p ≡ some w = set_here views p w (in_list views p v at) in
      subst (λ (l : List View). RuleKept rules c opening hand items (l ++ newcomer ∷ []))
      (set_again now p w here)
      (forks p w items now (given p v es items views may k at) here)

  first_view : (q : ℕ) (u : View) → get_elem? (beginner ∷ []) q ≡ some u
      → FitsRun rules c opening hand 0 [] (λ i. []) (λ i. []) opening (beginner ∷ []) q u
  first_view zero u e =
      subst (FitsRun rules c opening hand 0 [] (λ i. []) (λ i. []) opening (beginner ∷ []) 0)
      (some-injective beginner u e)
      record {
        starts = λ _. (refl, refl);
        sitting = λ i e. absurd (none-some i e);
        closed = λ x contained. absurd (none-in x contained);
        took = λ s contained. absurd (none-in s contained);
        reports = λ i l contained. absurd (none-in (i, l) contained);
      }
  first_view (suc q) u e = absurd (some-ne-none u (sym e))

  -- nothing was handed to any node yet
  pub first_start : IsHanding rules hand → IsStart rules c opening hand (λ i. []) opening
  first_start law = record {
    there = λ i n at.
        at ∙ ap (λ core. Some (record { core = core; link = n.link })) (sym (law.none n.core));
    count = refl;
    sent = refl;
    early = refl;
  }

  pub begins : IsHanding rules hand → RuleKept rules c opening hand [] (beginner ∷ [])
  begins law = (
    0,
    [],
    (λ i. []),
    opening,
    record {
      handings = λ i. [];
      run = record {
        start = opening;
        starts = first_start law;
        run = record { moves = []; leads = refl; are = λ j. refl };
      };
      seats = λ i. omega arith;
      once = λ i. omega arith;
      fresh = λ i z. (refl, refl);
      fits = first_view;
      holds = λ x contained. absurd (none-in x contained);
    },
  )
