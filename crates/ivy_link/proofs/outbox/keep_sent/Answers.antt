use Rattle.std.proofs.Common.{◌≡◌, List, length, map, ap, sym, subst, ◌∙◌, rules}
use Rattle.std.specs.VecDeque.{deque_len}
use Rattle.ivy_wire.specs.stated.Data.{Parcel}
use Rattle.ivy_wire.specs.Lent.{owned_parcel}
use Rattle.ivy_link.specs.Holding.{link_of, AreToPeers, after_sending}
use Rattle.ivy_link.proofs.Kepts.{one-alone, last-ends}
use Rattle.ivy_link.proofs.outbox.keep_sent.Goals as goal

pub keep_spelled-requires-clause-within : goal.keep_spelled-requires-clause-within
keep_spelled-requires-clause-within g c =
    subst (λ (qs : List Parcel). AreToPeers c.args.link.now qs)
    (ap (map owned_parcel)
    (one-alone c.args.parcels.now _ c.in-len1.len_at_least c.in-len1.len_below))
    c.requires.within

pub keep_spelled-requires-clause-ends : goal.keep_spelled-requires-clause-ends
keep_spelled-requires-clause-ends g c =
    let counted : deque_len c.args.strings.now ≡ length c.args.strings.now.items = search rules in
    last-ends (link_of c.args.link.now) (map owned_parcel c.args.parcels.now) _
    c.args.strings.now.items c.in-Some.string.now
    (ap (map owned_parcel)
    (one-alone c.args.parcels.now _ c.in-len1.len_at_least c.in-len1.len_below))
    c.requires.spelled
    (rw counted at c.in-Some.ensures.lookup)

pub returns-in-Some-clause-ok : goal.returns-in-Some-clause-ok
returns-in-Some-clause-ok g c =
    c.in_ok-keep_spelled.ensures.ok
    ∙ ap (λ (qs : List Parcel). after_sending c.args.link.now qs)
    (sym (ap (map owned_parcel)
    (one-alone c.args.parcels.now _ c.in-len1.len_at_least c.in-len1.len_below)))
