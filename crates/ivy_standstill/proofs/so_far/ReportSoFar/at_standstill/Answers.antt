use Rattle.std.proofs.Common.{◌≡◌, map, false, true, sym, ap, subst, ◌∙◌}
use Rattle.ivy_standstill.specs.Ends.{HaveEnded}
use Rattle.ivy_standstill.specs.SoFar.{so_far_of, AreDelivered}
use Rattle.ivy_standstill.proofs.so_far.ReportSoFar.at_standstill.Goals as goal

not-yes : false ≡ true → ⊥
not-yes is = cc

pub returns-clause-still : goal.returns-clause-still
returns-clause-still g c =
    let same : map so_far_of c.in_ok-sites.sites.items ≡ c.args.self =
    ap (map so_far_of) c.in_ok-sites.ensures.same ∙ c.self.view_is in record {
      delivered = subst AreDelivered (sym same) (c.is_delivered.ensures c.if-not-is_delivered.false);
      turns = c.in_ok-sites.ensures.rest;
      waits = λ all. not-yes (sym c.if-have_ended.false
          ∙ c.have_ended.ensures.1 (subst HaveEnded same all));
    }
