use Rattle.std.proofs.Common.{ap, subst}
use Rattle.ivy_wire.specs.Lent.{owned_content, owned_message}
use Rattle.ivy_wire.specs.stated.Spelling.{FitsContent}
use Rattle.ivy_pagetable.proofs.Bits.{with_below}
use Rattle.ivy_coherence.proofs.posting.Few.{handled-few}
use Rattle.ivy_coherence.proofs.coherence.Coherence.handle.Goals as goal

pub page_came-requires-clause-copies : goal.page_came-requires-clause-copies
page_came-requires-clause-copies g c =
    rw c.from_bits.ensures
    (with_below c.args.self.now.config.nodes c.in-WriteRep.copies
    (subst (FitsContent c.args.self.now.config) (ap owned_content c.in-WriteRep.is)
    c.requires.fits.content).1)

pub returns-in_err-copy_came-in-ReadRep-clause-few : goal.returns-in_err-copy_came-in-ReadRep-clause-few
returns-in_err-copy_came-in-ReadRep-clause-few g c =
    handled-few g.M.Manager.ops c.args.self.now c.args.from (owned_message c.args.message)
    c.sound.ensures c.requires.fits

pub returns-in_ok-copy_came-in-ReadRep-clause-few : goal.returns-in_ok-copy_came-in-ReadRep-clause-few
returns-in_ok-copy_came-in-ReadRep-clause-few g c =
    handled-few g.M.Manager.ops c.args.self.now c.args.from (owned_message c.args.message)
    c.sound.ensures c.requires.fits

pub returns-in_err-page_came-in-WriteRep-clause-few : goal.returns-in_err-page_came-in-WriteRep-clause-few
returns-in_err-page_came-in-WriteRep-clause-few g c =
    handled-few g.M.Manager.ops c.args.self.now c.args.from (owned_message c.args.message)
    c.sound.ensures c.requires.fits

pub returns-in_ok-page_came-in-WriteRep-clause-few : goal.returns-in_ok-page_came-in-WriteRep-clause-few
returns-in_ok-page_came-in-WriteRep-clause-few g c =
    handled-few g.M.Manager.ops c.args.self.now c.args.from (owned_message c.args.message)
    c.sound.ensures c.requires.fits

pub returns-in_err-acknowledged-in-InvalAck-clause-few : goal.returns-in_err-acknowledged-in-InvalAck-clause-few
returns-in_err-acknowledged-in-InvalAck-clause-few g c =
    handled-few g.M.Manager.ops c.args.self.now c.args.from (owned_message c.args.message)
    c.sound.ensures c.requires.fits

pub returns-in_ok-acknowledged-in-InvalAck-clause-few : goal.returns-in_ok-acknowledged-in-InvalAck-clause-few
returns-in_ok-acknowledged-in-InvalAck-clause-few g c =
    handled-few g.M.Manager.ops c.args.self.now c.args.from (owned_message c.args.message)
    c.sound.ensures c.requires.fits
