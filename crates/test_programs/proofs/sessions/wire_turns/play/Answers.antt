use Rattle.std.proofs.Common.{◌≡◌, length, slice_get, get_or, ◌∷◌, [], Some, sym, ap, subst, ◌∙◌, arith}
use Rattle.std.proofs.lemmas.List.{get_or_append_left, get_or_push, length_push}
use Rattle.std.proofs.lemmas.List.Elements.{All-pop}
use Rattle.std.proofs.lemmas.Option.{slice_get_read}
use Rattle.ivy_ether.specs.Held.{Held}
use Rattle.ivy_ether.specs.Rule.{times}
use Rattle.ivy_ether.specs.Views.{View}
use Rattle.ivy_ether.specs.EtherViews.{IsNewcomer}
use Rattle.ivy_seating.proofs.Collected.{fresh_pop, issued_more}
use Rattle.test_programs.proofs.sessions.wire_turns.play.Goals as goal

pub seat-one-requires-clause-there : goal.seat-one-requires-clause-there
seat-one-requires-clause-there g c =
    let all = c.in-Some-Some.ensures.items in
    let front = c.in-Some-Some.ensures'.items in
    let asks = c.in-Some-Some.asks in
    let long : length c.args.programs.items ≡ 3 = c.requires.trio in
    let last = ap length all ∙ length_push c.pop-4.new.self.items c.in-Some-Some.loads in
    let before = ap length front ∙ length_push c.pop-5.new.self.items asks in
    let inside = get_or_append_left c.pop-4.new.self.items (c.in-Some-Some.loads ∷ []) asks 1
    (omega (arith, long, last)) in
    let at = get_or_push c.pop-5.new.self.items asks asks 1 (omega (arith, long, last, before)) in
    subst (λ l. slice_get l 1 ≡ Some asks) c.requires.programs
    (slice_get_read c.args.programs.items 3 1 asks (sym long) (omega arith)
    (sym (ap (λ l. get_or l 1 asks) all ∙ inside ∙ ap (λ l. get_or l 1 asks) front ∙ at)))

pub seat-one-requires-clause-pass : goal.seat-one-requires-clause-pass
seat-one-requires-clause-pass g c =
    let passes = c.in-Some-Some-Some in
    let newcomers = (fresh_pop _ _ c.pop.new.self.items passes.starter c.in_ok-ether.ensures.fresh
    passes.ensures.items).0 in
    (All-pop (IsNewcomer _) _ _ (Some passes.first) passes.ensures'.items newcomers).1

pub seat-two-requires-clause-starter : goal.seat-two-requires-clause-starter
seat-two-requires-clause-starter g c =
    let starter = (fresh_pop _ _ c.pop.new.self.items c.in-Some-Some-Some.starter
    c.in_ok-ether.ensures.fresh c.in-Some-Some-Some.ensures.items).1 in (
      c.seat-one.ensures.starter ∙ ap (λ (h : Held). h.ether) starter,
      ap (λ (v : View). v.starts) c.seat-one.ensures.issued
          ∙ ap (λ (h : Held). h.known.starts) starter,
    )

pub seat-two-requires-clause-pass : goal.seat-two-requires-clause-pass
seat-two-requires-clause-pass g c =
    let passes = c.in-Some-Some-Some in
    let newcomers = (fresh_pop _ _ c.pop.new.self.items passes.starter c.in_ok-ether.ensures.fresh
    passes.ensures.items).0 in
    let rest = (All-pop (IsNewcomer _) _ _ (Some passes.first) passes.ensures'.items newcomers).0 in
    (All-pop (IsNewcomer _) _ _ (Some passes.second) passes.ensures''.items rest).1

pub seat-two-requires-clause-new : goal.seat-two-requires-clause-new
seat-two-requires-clause-new g c =
    let starter = (fresh_pop _ _ c.pop.new.self.items c.in-Some-Some-Some.starter
    c.in_ok-ether.ensures.fresh c.in-Some-Some-Some.ensures.items).1 in
    issued_more _ c.seat-one.new.starter.known 1 c.seat-one.ensures.issued
    (λ j le. ap (λ (h : Held). times j h.known.issued) starter) 2 (omega arith)
