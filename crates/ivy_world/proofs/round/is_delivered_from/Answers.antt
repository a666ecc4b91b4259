use Rattle.std.proofs.Common.{rules, ◌≡◌, length, slice_get, Some, refl, sym, arith}
use Rattle.std.proofs.lemmas.Option.{slice_get_read, slice_get_within}
use Rattle.ivy_link.specs.stated.Linked.{peer_at}
use Rattle.ivy_world.proofs.WorldRounds.{knows, not_delivered, delivered_there, one_more}
use Rattle.ivy_world.proofs.round.is_delivered_from.Goals as goal
use Rattle.ivy_world.proofs.round.is_delivered_from.Goals.{else-to-from-via-then-to-from+else-delivered_from-sent_to, else-to-from-via-else-to-from}

pub delivered_from-requires : goal.delivered_from-requires
delivered_from-requires g c = record {
  from = knows c.args.config.now c.args.sites.now c.requires.sites c.loop-to.to
      c.index-sites-from-in-loop-to.result
      (slice_get_read c.args.sites.now (length c.args.sites.now) c.loop-to.to
      c.index-sites-from-in-loop-to.result refl (search rules) (search rules)) c.args.from
      c.requires.from;
}

pub sent_to-requires : goal.sent_to-requires
sent_to-requires g c = record {
  to = knows c.args.config.now c.args.sites.now c.requires.sites c.args.from
      c.index-sites-from.result
      (slice_get_read c.args.sites.now (length c.args.sites.now) c.args.from
      c.index-sites-from.result refl (search rules) (search rules)) c.loop-to.to
      c.loop-to-test.true;
}

pub returns-then-delivered_from-sent_to : goal.returns-then-delivered_from-sent_to
returns-then-delivered_from-sent_to g c = (
  λ t. absurd cc,
  λ all. absurd (not_delivered c.args.sites.now c.args.from c.index-sites-from.result
      (slice_get_read c.args.sites.now (length c.args.sites.now) c.args.from
      c.index-sites-from.result refl (search rules) (search rules)) c.loop-to.to
      c.index-sites-from-in-loop-to.result
      (slice_get_read c.args.sites.now (length c.args.sites.now) c.loop-to.to
      c.index-sites-from-in-loop-to.result refl (search rules) (search rules))
      (λ e. c.if-to-from.true (sym e)) (search rules) all),
)

pub loop-to-preserved : goal.loop-to-preserved
loop-to-preserved g c =
    let here : slice_get c.args.sites.now c.args.from ≡ Some c.index-sites-from.result =
    slice_get_read c.args.sites.now (length c.args.sites.now) c.args.from
    c.index-sites-from.result refl (search rules) (search rules) in
    let there : slice_get c.args.sites.now c.loop-to.to
    ≡ Some c.index-sites-from-in-loop-to.result =
    slice_get_read c.args.sites.now (length c.args.sites.now) c.loop-to.to
    c.index-sites-from-in-loop-to.result refl (search rules) (search rules) in
    one_more c.args.sites.now c.args.from c.loop-to.to c.loop-to.invariant
    (λ apart. elim c.else-to-from.branch [
      | else-to-from-via-then-to-from+else-delivered_from-sent_to w ↦
          (let is : (peer_at c.index-sites-from-in-loop-to.result.node.link c.args.from).delivered
          ≡ (peer_at c.index-sites-from.result.node.link c.loop-to.to).sent = search rules in
          delivered_there c.args.sites.now c.args.from c.index-sites-from.result here
          c.loop-to.to c.index-sites-from-in-loop-to.result there is)
      | else-to-from-via-else-to-from w ↦ absurd (apart (sym w.if-to-from.false))
    ])

pub returns : goal.returns
returns g c = (
  λ t j s u apart here there. c.loop-to.invariant j s u
      (omega (
        arith,
        slice_get_within c.args.sites.now j u there,
        c.requires.each,
        c.loop-to-test.false,
      )) apart here there,
  λ all. refl,
)
