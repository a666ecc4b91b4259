use Rattle.ivy_own.proofs.Owning.{call_made}
use Rattle.ivy_own.proofs.owned.begin_once.Goals as goal

pub returns-clause-done : goal.returns-clause-done
returns-clause-done g c =
    call_made c.args.call c.in_ok-came.came c.args.seated.now.site c.call.new.self.site
    c.in_ok-came.ensures.done
