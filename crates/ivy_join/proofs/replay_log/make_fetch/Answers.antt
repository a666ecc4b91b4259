use Rattle.ivy_join.proofs.Fetched.{fetch-says}
use Rattle.ivy_join.proofs.replay_log.make_fetch.Goals as goal

pub returns-in-Ok : goal.returns-in-Ok
returns-in-Ok g c =
    fetch-says c.in-Ok.begun c.args.page c.args.write c.args.site.now c.fetch.new.self c.in-Ok.ensures.done
