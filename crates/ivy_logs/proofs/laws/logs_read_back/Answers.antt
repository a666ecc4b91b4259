use Rattle.ivy_logs.proofs.ReadBack.{logs-read-back}
use Rattle.ivy_logs.proofs.SpelledOnce.{logs-spell-one}
use Rattle.ivy_logs.proofs.laws.logs_read_back.Goals as goal

pub returns : goal.returns
returns c = record { back = logs-read-back; once = logs-spell-one }
