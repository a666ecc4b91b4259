use Rattle.std.proofs.Common.{◌≢◌, Contains, sym, ap, ◌∙◌, subst, rules, inl, inr, refl}
use Rattle.ivy_model.specs.declared.Fault.TheVariants as fault
use Rattle.ivy_wire.specs.Destinations.{dest_of}
use Rattle.ivy_wire.specs.stated.DecodeErrors.{checked}
use Rattle.ivy_ether.specs.Held.{Held}
use Rattle.ivy_site.specs.Sites.{AfterDelivery}
use Rattle.ivy_seating.proofs.WireTurns.{HasTaken, has_taken, took_string, drops_string, refused_as, returns_string, loses_string}
use Rattle.ivy_seating.proofs.seated.Seated.wire_turn_to.Goals as goal

pub give_back-requires : goal.give_back-requires
give_back-requires g c =
    let taken : HasTaken c.in-Frame.frame c.args.self.now c.take_item.new.self =
    has_taken _ _ _ c.send_first.new.self _ c.in-Frame.is c.in_default.ensures.done c.take_item.ensures.ether
    c.in-Some-take_item.ensures.site c.in-Some-take_item.ensures.pass in
    record {
      took = subst (λ (p : Held). Contains p.known.took c.in-Frame.frame)
          (sym c.in-Ok-NotMine.ensures.pass) (took_string _ _ _ taken);
    }

pub returns : goal.returns
returns g c =
    let taken : HasTaken c.in-Frame.frame c.args.self.now c.take_item.new.self =
    has_taken _ _ _ c.send_first.new.self _ c.in-Frame.is c.in_default.ensures.done c.take_item.ensures.ether
    c.in-Some-take_item.ensures.site c.in-Some-take_item.ensures.pass in
    let some : c.in-Err.field-0 ≢ fault.Memory = search rules in
    let numbers : c.in-Err.field-0 ≢ fault.NumbersSpent = search rules in
    let here = c.take_item.new.self.site in
    let dropped = drops_string c.in-Frame.frame _ c.take_item.new.self c.deliver.new.self taken
    (refused_as (checked here.config c.in-Frame.frame) c.deliver.result c.in-Err.field-0
    c.in-Err.is c.deliver.ensures.refused some numbers) c.in-Err.ensures.done in
    record {
      ether = search rules;
      done = inr dropped;
      to = inr (dropped, refl);
      want = tt;
    }

pub returns-then-give_back-clause-to : goal.returns-then-give_back-clause-to
returns-then-give_back-clause-to g c =
    let taken : HasTaken c.in-Frame.frame c.args.self.now c.take_item.new.self =
    has_taken _ _ _ c.send_first.new.self _ c.in-Frame.is c.in_default.ensures.done
    c.take_item.ensures.ether c.in-Some-take_item.ensures.site
    c.in-Some-take_item.ensures.pass in
    let x =
    returns_string c.in-Frame.frame c.args.self.now c.take_item.new.self c.deliver.new.self
    c.give_back.new.self taken
    (subst (λ v. AfterDelivery c.in-Frame.frame v c.take_item.new.self.site
    c.deliver.new.self.site) c.in-Ok-NotMine.field-0-is c.in-Ok-NotMine.ensures.done)
    c.in-Ok-NotMine.ensures.ether
    c.in-Ok-NotMine.ensures.pass c.if-give_back.ensures.site c.if-give_back.ensures.pass in
    (x.0, c.destination-to.ensures.is ∙ ap dest_of (c.bytes.ensures ∙ sym x.1))

pub returns-in-Ok-NotMine-clause-to : goal.returns-in-Ok-NotMine-clause-to
returns-in-Ok-NotMine-clause-to g c =
    let taken : HasTaken c.in-Frame.frame c.args.self.now c.take_item.new.self =
    has_taken _ _ _ c.send_first.new.self _ c.in-Frame.is c.in_default.ensures.done
    c.take_item.ensures.ether c.in-Some-take_item.ensures.site
    c.in-Some-take_item.ensures.pass in
    let x =
    loses_string c.in-Frame.frame c.args.self.now c.take_item.new.self c.deliver.new.self
    c.give_back.new.self taken
    (subst (λ v. AfterDelivery c.in-Frame.frame v c.take_item.new.self.site
    c.deliver.new.self.site) c.in-Ok-NotMine.field-0-is c.in-Ok-NotMine.ensures.done)
    c.in-Ok-NotMine.ensures.ether
    c.in-Ok-NotMine.ensures.pass c.if-give_back.ensures.site c.if-give_back.ensures.pass in
    inl (x.0, c.destination-to.ensures.is ∙ ap dest_of (c.bytes.ensures ∙ sym x.1))
