use Rattle.std.proofs.Common.{◌≡◌, ◌<◌, refl, length, map, replicate, drop, sym, subst, ◌∙◌}
use Rattle.std.proofs.lemmas.List.{length-map, length-replicate, take_at}
use Rattle.std.proofs.lemmas.Result.{err_from_is_err_and, IfErr-weaker, IfOk-from_err, on_ok_weaker}
use Rattle.ivy_world.specs.WorldSites.{programs_of}
use Rattle.ivy_moves.specs.Marks.{marks}
use Rattle.ivy_logs.specs.declared.log.Log.{Log}
use Rattle.ivy_logs.specs.Entries.{events_in}
use Rattle.ivy_join.specs.Calls.{HaveHanded, HandNothing}
use Rattle.ivy_join.specs.ReplaySites.{program_in}
use Rattle.ivy_join.proofs.Calls.{all-handed, hands-begin, hands-then, have-none}
use Rattle.ivy_join.specs.Exact.{left_of, AreAllMade, AreMadeTo, IsOneLeft}
use Rattle.ivy_join.specs.Joined.{AreNoParts, SaysNoParts}
use Rattle.ivy_join.proofs.Counted.{lists-made, none-made}
use Rattle.ivy_join.proofs.Stuck.{stuck-no-parts}
use Rattle.ivy_join.proofs.replay_log.play.Goals as goal

pub play_round-requires-clause-each : goal.play_round-requires-clause-each
play_round-requires-clause-each g c =
    subst (λ l. AreMadeTo (map (λ (x : Log g.row.A.Denot). x.entries.items) c.args.logs.now) l c.loop-made.sites.items)
    (sym c.deref_mut.ensures.value) c.loop-made.invariant.each

pub returns-in_err-play_round-clause-refused : goal.returns-in_err-play_round-clause-refused
returns-in_err-play_round-clause-refused g c =
    let p = err_from_is_err_and c.from_residual-in_err-play_round.result
    c.from_residual-in_err-play_round.ensures.1 in
    let inv = c.loop-made.invariant in
    let size = length-map c.args.logs.now (λ (x : Log g.row.A.Denot). x.entries.items) in
    let zeros = length-replicate (length c.args.logs.now) 0 in
    let olds = length-map c.args.sites.now.items program_in in
    let many : length c.loop-made.made.items ≡ length (map (λ (x : Log g.row.A.Denot). x.entries.items) c.args.logs.now) =
    sym c.loop-made.made.ok.0 ∙ inv.made ∙ sym c.requires.logs ∙ sym size in
    rw p.1
    (λ told none. subst (λ ps. AreNoParts c.args.config.now c.args.opening ps
    (map (λ (x : Log g.row.A.Denot). marks (events_in x.entries.items)) c.args.logs.now))
    (have-none (map (λ (x : Log g.row.A.Denot). x.entries.items) c.args.logs.now) (replicate (length c.args.logs.now) 0)
    c.loop-made.made.items (programs_of c.args.sites.now.items) (programs_of c.loop-made.sites.items) none
    (zeros ∙ sym size) many (olds ∙ sym c.requires.logs ∙ sym size)
    (length-map c.loop-made.sites.items program_in ∙ inv.count ∙ sym olds) inv.handed)
    (c.in_err-play_round.ensures.refused (subst SaysNoParts p.2 told) none))

pub loop-made-preserved : goal.loop-made-preserved
loop-made-preserved g c =
    let inv = c.loop-made.invariant in
    let p = c.in_ok-play_round.ensures.exact in record {
      played = c.in_ok-play_round.ensures.played;
      handed = subst (λ l. HaveHanded (map (λ (x : Log g.row.A.Denot). x.entries.items) c.args.logs.now)
          (replicate (length c.args.logs.now) 0) l (programs_of c.args.sites.now.items)
          (programs_of c.play_round.new.sites.items))
          (sym (take_at c.play_round.new.made (drop (length c.play_round.new.made) c.loop-made.made.items)
          c.loop-made.made.len (c.play_round.auto.made ∙ c.deref_mut.ensures.len)))
          (hands-then (map (λ (x : Log g.row.A.Denot). x.entries.items) c.args.logs.now) (replicate (length c.args.logs.now) 0)
          c.loop-made.made.items c.play_round.new.made (programs_of c.args.sites.now.items)
          (programs_of c.loop-made.sites.items) (programs_of c.play_round.new.sites.items)
          (length-replicate (length c.args.logs.now) 0 ∙ c.requires.logs ∙ sym c.loop-made.invariant.made
          ∙ c.loop-made.made.ok.0) c.loop-made.invariant.handed
          (subst (λ l. HaveHanded (map (λ (x : Log g.row.A.Denot). x.entries.items) c.args.logs.now) l c.play_round.new.made
          (programs_of c.loop-made.sites.items) (programs_of c.play_round.new.sites.items)) c.deref_mut.ensures.value
          c.in_ok-play_round.ensures.handed));
      count = c.play_round.ensures.count ∙ inv.count;
      made = inv.made;
      have = p.have;
      each = subst
          (λ l. AreMadeTo (map (λ (x : Log g.row.A.Denot). x.entries.items) c.args.logs.now) l
          c.play_round.new.sites.items)
          (sym (take_at c.play_round.new.made (drop (length c.play_round.new.made) c.loop-made.made.items)
          c.loop-made.made.len (c.play_round.auto.made ∙ c.deref_mut.ensures.len))) p.each;
    }

pub returns-clause-lists : goal.returns-clause-lists
returns-clause-lists g c =
    let p = c.in_ok-play_round.ensures.exact in
    let written : c.deref.result.now ≡ c.play_round.new.made =
    c.deref.ensures.value
    ∙ take_at c.play_round.new.made (drop (length c.play_round.new.made) c.loop-made.made.items)
    c.loop-made.made.len (c.play_round.auto.made ∙ c.deref_mut.ensures.len) in
    let each : length c.args.logs.now ≡ length c.play_round.new.sites.items =
    c.requires.logs ∙ sym (c.play_round.ensures.count ∙ c.loop-made.invariant.count) in
    let count : length c.play_round.new.made ≡ length c.play_round.new.sites.items =
    c.play_round.auto.made ∙ c.deref_mut.ensures.len ∙ c.loop-made.invariant.made
    ∙ sym (c.play_round.ensures.count ∙ c.loop-made.invariant.count) in
    on_ok_weaker c.check_ends.result
    (λ all. lists-made (λ (x : Log g.row.A.Denot). x.entries.items) c.args.logs.now c.play_round.new.made
    c.play_round.new.sites.items each count p.each
    (subst (AreAllMade (map (λ (x : Log g.row.A.Denot). x.entries.items) c.args.logs.now)) written all))
    c.check_ends.ensures.all

pub returns-clause-refused : goal.returns-clause-refused
returns-clause-refused g c =
    let p = c.in_ok-play_round.ensures.exact in
    let written : c.deref.result.now ≡ c.play_round.new.made =
    c.deref.ensures.value
    ∙ take_at c.play_round.new.made (drop (length c.play_round.new.made) c.loop-made.made.items)
    c.loop-made.made.len (c.play_round.auto.made ∙ c.deref_mut.ensures.len) in
    let each : length c.args.logs.now ≡ length c.play_round.new.sites.items =
    c.requires.logs ∙ sym (c.play_round.ensures.count ∙ c.loop-made.invariant.count) in
    let count : length c.play_round.new.made ≡ length c.play_round.new.sites.items =
    c.play_round.auto.made ∙ c.deref_mut.ensures.len ∙ c.loop-made.invariant.made
    ∙ sym (c.play_round.ensures.count ∙ c.loop-made.invariant.count) in
    let size = length-map c.args.logs.now (λ (x : Log g.row.A.Denot). x.entries.items) in
    let olds = length-map c.args.sites.now.items program_in in
    let same : HandNothing (map (λ (x : Log g.row.A.Denot). x.entries.items) c.args.logs.now)
    → programs_of c.play_round.new.sites.items ≡ programs_of c.args.sites.now.items =
    (λ none. have-none (map (λ (x : Log g.row.A.Denot). x.entries.items) c.args.logs.now) (replicate (length c.args.logs.now) 0)
    c.play_round.new.made (programs_of c.args.sites.now.items) (programs_of c.play_round.new.sites.items) none
    (length-replicate (length c.args.logs.now) 0 ∙ sym size) (count ∙ sym each ∙ sym size)
    (olds ∙ sym c.requires.logs ∙ sym size)
    (length-map c.play_round.new.sites.items program_in ∙ c.play_round.ensures.count
    ∙ c.loop-made.invariant.count ∙ sym olds)
    (hands-then (map (λ (x : Log g.row.A.Denot). x.entries.items) c.args.logs.now) (replicate (length c.args.logs.now) 0)
    c.loop-made.made.items c.play_round.new.made (programs_of c.args.sites.now.items)
    (programs_of c.loop-made.sites.items) (programs_of c.play_round.new.sites.items)
    (length-replicate (length c.args.logs.now) 0 ∙ c.requires.logs ∙ sym c.loop-made.invariant.made
    ∙ c.loop-made.made.ok.0) c.loop-made.invariant.handed
    (subst (λ l. HaveHanded (map (λ (x : Log g.row.A.Denot). x.entries.items) c.args.logs.now) l c.play_round.new.made
    (programs_of c.loop-made.sites.items) (programs_of c.play_round.new.sites.items)) c.deref_mut.ensures.value
    c.in_ok-play_round.ensures.handed))) in
    IfErr-weaker c.check_ends.result
    (λ why. IsOneLeft (map (λ (x : Log g.row.A.Denot). x.entries.items) c.args.logs.now) c.deref.result.now)
    (λ why. SaysNoParts why → HandNothing (map (λ (x : Log g.row.A.Denot). x.entries.items) c.args.logs.now)
    → AreNoParts c.args.config.now c.args.opening (programs_of c.args.sites.now.items)
    (map (λ (x : Log g.row.A.Denot). marks (events_in x.entries.items)) c.args.logs.now))
    (λ why left told none. subst (λ ps. AreNoParts c.args.config.now c.args.opening ps
    (map (λ (x : Log g.row.A.Denot). marks (events_in x.entries.items)) c.args.logs.now)) (same none)
    (stuck-no-parts (λ (x : Log g.row.A.Denot). x.entries.items) c.args.config.now c.args.opening c.play_round.new.sites.items
    c.play_round.new.sent c.args.logs.now c.play_round.new.made c.in_ok-play_round.ensures.played p.have each count
    p.each (p.stuck c.if-branch.false)
    (subst (IsOneLeft (map (λ (x : Log g.row.A.Denot). x.entries.items) c.args.logs.now)) written left)))
    c.check_ends.ensures.left

pub returns-in_err-made-clause-played : goal.returns-in_err-made-clause-played
returns-in_err-made-clause-played g c = IfOk-from_err c.from_residual.result _ c.from_residual.ensures.0

pub returns-in_err-made-clause-handed : goal.returns-in_err-made-clause-handed
returns-in_err-made-clause-handed g c = IfOk-from_err c.from_residual.result _ c.from_residual.ensures.0

pub returns-in_err-made-clause-lists : goal.returns-in_err-made-clause-lists
returns-in_err-made-clause-lists g c = IfOk-from_err c.from_residual.result _ c.from_residual.ensures.0

pub returns-in_err-made-clause-count : goal.returns-in_err-made-clause-count
returns-in_err-made-clause-count g c = refl

pub returns-in_err-made-clause-refused : goal.returns-in_err-made-clause-refused
returns-in_err-made-clause-refused g c =
    let p = err_from_is_err_and c.from_residual.result c.from_residual.ensures.1 in
    rw (p.1, p.2) (λ told none. absurd told)

pub loop-made-init : goal.loop-made-init
loop-made-init g c =
    let zeros = c.in_ok-made.ensures.items_if_clones_equal (λ y same. same) in record {
      played = c.requires.played;
      handed = subst (λ ms. HaveHanded (map (λ (x : Log g.row.A.Denot). x.entries.items) c.args.logs.now) ms
          c.in_ok-made.made.items (programs_of c.args.sites.now.items) (programs_of c.args.sites.now.items)) zeros
          (hands-begin (map (λ (x : Log g.row.A.Denot). x.entries.items) c.args.logs.now) c.in_ok-made.made.items
          (programs_of c.args.sites.now.items));
      count = refl;
      made = c.in_ok-made.ensures.len ∙ c.requires.logs;
      have = c.requires.sent;
      each = none-made (map (λ (x : Log g.row.A.Denot). x.entries.items) c.args.logs.now)
          c.in_ok-made.made.items (length c.args.logs.now) c.args.sites.now.items zeros c.requires.none;
    }

pub play_round-requires-clause-played : goal.play_round-requires-clause-played
play_round-requires-clause-played g c = c.loop-made.invariant.played

pub play_round-requires-clause-logs : goal.play_round-requires-clause-logs
play_round-requires-clause-logs g c = c.requires.logs ∙ sym c.loop-made.invariant.count

pub play_round-requires-clause-made : goal.play_round-requires-clause-made
play_round-requires-clause-made g c =
    c.deref_mut.ensures.len ∙ c.loop-made.invariant.made ∙ sym c.loop-made.invariant.count

pub play_round-requires-clause-sent : goal.play_round-requires-clause-sent
play_round-requires-clause-sent g c = c.loop-made.invariant.have

pub returns-in_err-play_round-clause-played : goal.returns-in_err-play_round-clause-played
returns-in_err-play_round-clause-played g c =
    IfOk-from_err c.from_residual-in_err-play_round.result _ c.from_residual-in_err-play_round.ensures.0

pub returns-in_err-play_round-clause-handed : goal.returns-in_err-play_round-clause-handed
returns-in_err-play_round-clause-handed g c =
    IfOk-from_err c.from_residual-in_err-play_round.result _ c.from_residual-in_err-play_round.ensures.0

pub returns-in_err-play_round-clause-lists : goal.returns-in_err-play_round-clause-lists
returns-in_err-play_round-clause-lists g c =
    IfOk-from_err c.from_residual-in_err-play_round.result _ c.from_residual-in_err-play_round.ensures.0

pub returns-in_err-play_round-clause-count : goal.returns-in_err-play_round-clause-count
returns-in_err-play_round-clause-count g c =
    c.in_err-play_round.ensures.count ∙ c.loop-made.invariant.count

pub loop-made-smaller : goal.loop-made-smaller
loop-made-smaller g c =
    let p = c.in_ok-play_round.ensures.exact in
    subst (λ l. left_of (map (λ (x : Log g.row.A.Denot). x.entries.items) c.args.logs.now) l
    < left_of (map (λ (x : Log g.row.A.Denot). x.entries.items) c.args.logs.now) c.loop-made.made.items)
    (sym (take_at c.play_round.new.made (drop (length c.play_round.new.made) c.loop-made.made.items)
    c.loop-made.made.len (c.play_round.auto.made ∙ c.deref_mut.ensures.len)))
    (subst (λ l. left_of (map (λ (x : Log g.row.A.Denot). x.entries.items) c.args.logs.now) c.play_round.new.made
    < left_of (map (λ (x : Log g.row.A.Denot). x.entries.items) c.args.logs.now) l) c.deref_mut.ensures.value (p.less c.if-branch.true))

pub check_ends-requires : goal.check_ends-requires
check_ends-requires g c =
    c.deref.ensures.len ∙ c.loop-made.invariant.made ∙ sym c.requires.logs

pub returns-clause-played : goal.returns-clause-played
returns-clause-played g c =
    on_ok_weaker c.check_ends.result (λ _. c.in_ok-play_round.ensures.played) c.check_ends.ensures.all

pub returns-clause-handed : goal.returns-clause-handed
returns-clause-handed g c =
    let written : c.deref.result.now ≡ c.play_round.new.made =
    c.deref.ensures.value
    ∙ take_at c.play_round.new.made (drop (length c.play_round.new.made) c.loop-made.made.items)
    c.loop-made.made.len (c.play_round.auto.made ∙ c.deref_mut.ensures.len) in
    let size = length-map c.args.logs.now (λ (x : Log g.row.A.Denot). x.entries.items) in
    let olds = length-map c.args.sites.now.items program_in in
    let many : length c.play_round.new.made ≡ length (map (λ (x : Log g.row.A.Denot). x.entries.items) c.args.logs.now) =
    c.play_round.auto.made ∙ c.deref_mut.ensures.len ∙ c.loop-made.invariant.made ∙ sym c.requires.logs
    ∙ sym size in
    let gone = hands-then (map (λ (x : Log g.row.A.Denot). x.entries.items) c.args.logs.now) (replicate (length c.args.logs.now) 0)
    c.loop-made.made.items c.play_round.new.made (programs_of c.args.sites.now.items)
    (programs_of c.loop-made.sites.items) (programs_of c.play_round.new.sites.items)
    (length-replicate (length c.args.logs.now) 0 ∙ c.requires.logs ∙ sym c.loop-made.invariant.made
    ∙ c.loop-made.made.ok.0) c.loop-made.invariant.handed
    (subst (λ l. HaveHanded (map (λ (x : Log g.row.A.Denot). x.entries.items) c.args.logs.now) l c.play_round.new.made
    (programs_of c.loop-made.sites.items) (programs_of c.play_round.new.sites.items)) c.deref_mut.ensures.value
    c.in_ok-play_round.ensures.handed) in
    on_ok_weaker c.check_ends.result
    (λ all. all-handed (map (λ (x : Log g.row.A.Denot). x.entries.items) c.args.logs.now) (length c.args.logs.now)
    (replicate (length c.args.logs.now) 0) c.play_round.new.made (programs_of c.args.sites.now.items)
    (programs_of c.play_round.new.sites.items) refl (length-replicate (length c.args.logs.now) 0 ∙ sym size)
    many (olds ∙ sym c.requires.logs ∙ sym size)
    (length-map c.play_round.new.sites.items program_in ∙ c.play_round.ensures.count
    ∙ c.loop-made.invariant.count ∙ sym olds) gone
    (subst (AreAllMade (map (λ (x : Log g.row.A.Denot). x.entries.items) c.args.logs.now)) written all))
    c.check_ends.ensures.all

pub returns-clause-count : goal.returns-clause-count
returns-clause-count g c = c.play_round.ensures.count ∙ c.loop-made.invariant.count
