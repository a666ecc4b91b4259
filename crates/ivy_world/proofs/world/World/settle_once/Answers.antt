use Rattle.std.proofs.Common.{rules, ◌≡◌, true, false, not, sym, ap, subst, ◌∙◌}
use Rattle.std.specs.Result.{result_ok}
use Rattle.std.proofs.lemmas.Option.{same_Some}
use Rattle.ivy_world.specs.WorldRounds.{HadTurns}
use Rattle.ivy_world.proofs.Settled.{turned_on, stands_still}
use Rattle.ivy_world.proofs.Coming.{rests_within, rests_at_end}
use Rattle.ivy_world.proofs.world.World.settle_once.Goals as goal
use Rattle.ivy_world.proofs.world.World.settle_once.Goals.{then-not-round, else-not-round}

pub returns-clause-still : goal.returns-clause-still
returns-clause-still g c =
    let had : HadTurns c.make.new.self c.after.result =
    subst (HadTurns c.make.new.self) (sym c.after.ensures)
    (turned_on c.args.self.now c.next_move-step.new.self c.make.new.self
    c.next_move-step.ensures.same c.args.round.now c.next_move-step.result
    c.in_ok-stirred.stirred c.requires.round c.next_move-step.ensures.next
    c.in_ok-stirred.ensures.idle) in
    λ still.
    let is : c.if-not-round.is_still ≡ true =
    same_Some c.if-not-round.is_still true (ap result_ok still) in
    elim c.if-not-round.branch [
      | then-not-round w ↦
          stands_still c.make.new.self c.after.result c.reached.ensures.nodes (search rules) had
          w.if-not-round.true
          (w.is_delivered-is_still.ensures.0 (sym w.is_still-is ∙ is))
      | else-not-round w ↦
          (let wrong : false ≡ true =
          sym (ap not w.if-not-round.false) ∙ sym w.is_still-is ∙ is in absurd cc)
    ]

pub returns-then-round-nodes-clause-round : goal.returns-then-round-nodes-clause-round
returns-then-round-nodes-clause-round g c = record {
  within = search rules;
  idle = subst (HadTurns c.make.new.self) (sym c.after.ensures)
      (turned_on c.args.self.now c.next_move-step.new.self c.make.new.self
      c.next_move-step.ensures.same c.args.round.now c.next_move-step.result
      c.in_ok-stirred.stirred c.requires.round c.next_move-step.ensures.next
      c.in_ok-stirred.ensures.idle);
}

pub returns-then-round-nodes-clause-rests : goal.returns-then-round-nodes-clause-rests
returns-then-round-nodes-clause-rests g c =
    λ ok. rests_within c.args.self.now c.next_move-step.new.self c.make.new.self
    c.next_move-step.ensures.same c.args.round.now c.after.result c.next_move-step.result
    c.in_ok-stirred.stirred c.keeps.ensures c.requires.round.within
    c.next_move-step.ensures.next c.in_ok-stirred.ensures.did c.in_ok-stirred.ensures.idle
    c.after.ensures (search rules)

pub returns-clause-rests : goal.returns-clause-rests
returns-clause-rests g c =
    λ ok still idle.
    let x = rests_at_end c.args.self.now c.next_move-step.new.self c.make.new.self
    c.next_move-step.ensures.same c.args.round.now c.after.result c.next_move-step.result
    c.in_ok-stirred.stirred c.keeps.ensures c.requires.round.within
    c.next_move-step.ensures.next c.in_ok-stirred.ensures.did c.in_ok-stirred.ensures.idle
    c.after.ensures still idle in
    let is : c.if-not-round.is_still ≡ false =
    same_Some c.if-not-round.is_still false (ap result_ok ok) in
    elim c.if-not-round.branch [
      | then-not-round w ↦
          absurd (let all : w.is_delivered-is_still.result ≡ true =
          w.is_delivered-is_still.ensures.1 x.1 in
          let wrong : true ≡ false = sym all ∙ sym w.is_still-is ∙ is in cc)
      | else-not-round w ↦
          absurd (let stirred : c.after.result.stirred ≡ true = w.if-not-round.false in
          let wrong : true ≡ false = sym stirred ∙ x.0 in cc)
    ]
