use Rattle.ivy_join.proofs.AnswersTold.{did-told, fetched-told}
use Rattle.ivy_join.proofs.Entries.{did-made, fetched-made}
use Rattle.ivy_join.proofs.restart.make_entry.Goals as goal

pub returns-in-Did-clause-on : goal.returns-in-Did-clause-on
returns-in-Did-clause-on g c =
    did-made c.args.entry.now c.in-Did.event c.args.site.now c.make.new.site c.make.result c.in-Did.is
    c.make.ensures.on c.make.ensures.made

pub returns-in-Did-clause-told : goal.returns-in-Did-clause-told
returns-in-Did-clause-told g c =
    did-told c.make.result c.args.entry.now c.in-Did.event c.args.told c.make.new.site.node.core.history c.in-Did.is

pub returns-in-Fetched-clause-on : goal.returns-in-Fetched-clause-on
returns-in-Fetched-clause-on g c =
    fetched-made c.args.entry.now c.in-Fetched.page c.in-Fetched.write c.args.site.now c.make_fetch.new.site
    c.make_fetch.result c.in-Fetched.is c.make_fetch.ensures

pub returns-in-Fetched-clause-told : goal.returns-in-Fetched-clause-told
returns-in-Fetched-clause-told g c =
    fetched-told c.make_fetch.result c.args.entry.now c.in-Fetched.page c.in-Fetched.write c.args.told
    c.make_fetch.new.site.node.core.history c.in-Fetched.is
