use Rattle.std.proofs.Common.{map, ap}
use Rattle.ivy_wire.specs.Lent.{owned_parcel}
use Rattle.ivy_link.specs.Holding.{link_of}
use Rattle.ivy_link.proofs.Boxes.{numbers-at, sent-within, sent-fit, sent-box}
use Rattle.ivy_link.proofs.outbox.Outbox.send.Goals as goal

pub spell-requires-clause-within : goal.spell-requires-clause-within
spell-requires-clause-within g c =
    sent-within _ _ c.self.view_is c.self.invariant (map owned_parcel c.args.parcels.now)
    c.requires.fits

pub spell-requires-clause-numbers : goal.spell-requires-clause-numbers
spell-requires-clause-numbers g c =
    numbers-at _ _ c.self.view_is (map owned_parcel c.args.parcels.now) c.requires.numbers

pub spell-requires-clause-fit : goal.spell-requires-clause-fit
spell-requires-clause-fit g c =
    sent-fit _ _ c.self.view_is c.self.invariant (map owned_parcel c.args.parcels.now)
    c.requires.fits c.requires.numbers

pub keep_sent-requires : goal.keep_sent-requires
keep_sent-requires g c =
    record {
      within =
          sent-within _ _ c.self.view_is c.self.invariant (map owned_parcel c.args.parcels.now)
          c.requires.fits;
      numbers = numbers-at _ _ c.self.view_is (map owned_parcel c.args.parcels.now) c.requires.numbers;
      spelled = (_, c.in_ok-spell.ensures.ok);
    }

pub invariant_of-self-2 : goal.invariant_of-self-2
invariant_of-self-2 g c =
    sent-box _ _ c.self.view_is c.self.invariant (map owned_parcel c.args.parcels.now)
    (link_of c.keep_sent.new.link) c.spell.new.strings.items c.keep_sent.new.link.held c.requires.fits
    c.requires.numbers (ap link_of c.in_ok-keep_sent.ensures.ok)
