use Rattle.std.proofs.Common.{rules, arith, ◌≡◌, length, Some, [], ◌∷◌, ◌++◌, sym, ap, ◌∙◌}
use Rattle.std.proofs.lemmas.List.Elements.{All-pop}
use Rattle.ivy_calls.specs.declared.answer.Answer.{Answer}
use Rattle.ivy_own.specs.Known.{Listed, listed}
use Rattle.ivy_ether.specs.Rule.{times}
use Rattle.ivy_ether.specs.Views.{View}
use Rattle.ivy_ether.specs.EtherViews.{IsNewcomer}
use Rattle.ivy_seating.proofs.Collected.{issued_more}
use Rattle.ivy_own.proofs.Each.{none_got, got_more}
use Rattle.ivy_own.proofs.places.place_all.Goals as goal

pub loop-node-init : goal.loop-node-init
loop-node-init g c = (
  search rules,
  search rules,
  none_got (λ i (m : Listed Answer). m ≡ listed i []) c.new-mines.result.items (search rules),
  c.requires.starter.0,
  ap (λ (v : View). v.starts) c.requires.starter.1,
  (λ j le. ap (λ (v : View). times j v.issued) c.requires.starter.1),
  c.requires.passes,
  (let enough = c.requires.enough in omega (arith, enough)),
)

pub seat_one-requires-clause-pass : goal.seat_one-requires-clause-pass
seat_one-requires-clause-pass g c =
    (All-pop (IsNewcomer c.args.ether.now) _ _ (Some c.in-Some.pass) c.in-Some.ensures.items
    c.loop-node.invariant.6).1

pub seat_one-requires-clause-new : goal.seat_one-requires-clause-new
seat_one-requires-clause-new g c = c.loop-node.invariant.5 c.loop-node.node (omega arith)

pub returns-in_err-seated-clause-starter : goal.returns-in_err-seated-clause-starter
returns-in_err-seated-clause-starter g c =
    c.in_err-seated.ensures.starter ∙ (c.loop-node.invariant.3 ∙ sym c.requires.starter.0)

pub place_one-owned-requires-clause-site : goal.place_one-owned-requires-clause-site
place_one-owned-requires-clause-site g c = (c.args.plan.now.config, c.in_ok-seated.ensures.site)

pub loop-node-preserved : goal.loop-node-preserved
loop-node-preserved g c =
    let was = c.loop-node.invariant in
    let mines = c.loop-node.mines in
    let mine = c.place_one-owned.result.1 in
    let many = was.1 in
    let enough = was.7 in
    let less = c.in-Some.ensures.cases in
    let here : c.loop-node.node ≡ length mines.items = omega (arith, many, mines.ok.0) in
    let pushed : c.push_reserved-in-loop-node.new.self.items ≡ mines.items ++ mine ∷ [] =
    c.push_reserved-in-loop-node.ensures.items
    ∙ ap (λ l. l ++ mine ∷ []) c.in_ok-reserve-2.ensures.items in (
      search rules,
      search rules,
      got_more (λ i (m : Listed Answer). m ≡ listed i []) c.loop-node.node mines.items
          c.push_reserved-in-loop-node.new.self.items mine here pushed was.2
          c.place_one-owned.ensures.mine,
      c.in_ok-seated.ensures.starter ∙ was.3,
      ap (λ (v : View). v.starts) c.in_ok-seated.ensures.issued ∙ was.4,
      issued_more _ _ c.loop-node.node c.in_ok-seated.ensures.issued was.5,
      (All-pop (IsNewcomer c.args.ether.now) _ _ (Some c.in-Some.pass) c.in-Some.ensures.items
          was.6).0,
      omega (arith, enough, less),
    )
