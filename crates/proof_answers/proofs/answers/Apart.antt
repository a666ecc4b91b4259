-- Moves that follow one another, taken apart, and a turn among them.
use Rattle.std.proofs.Common.{◌≡◌, ℕ, List, [], ◌∷◌, ◌++◌, map, slice_get, Some, refl, sym, ap, ◌∙◌}
use Rattle.std.proofs.lemmas.Option.{same_Some}
use Rattle.ivy_model.specs.declared.Config.{Config}
use Rattle.ivy_wire.specs.stated.Data.{Parcel}
use Rattle.ivy_wire.specs.stated.Spelling.{spelling}
use Rattle.ivy_link.specs.stated.Linked.{sends, has_numbers}
use Rattle.ivy_moves.specs.declared.Move.{Move}
use Rattle.ivy_moves.specs.declared.Move.TheVariants.{Turn}
use Rattle.ivy_moves.specs.stated.Cores.{Core, Outcome}
use Rattle.ivy_moves.specs.stated.Nodes.{Node, Effect, posting, turned, turned_to}
use Rattle.ivy_moves.specs.stated.Worlds.{World, is_named, turn_of as turn_made_of, made_by, moved, Moves, Leads}
use Rattle.ivy_moves.proofs.Following.{went}
use Rattle.ivy_moves.proofs.Places.{guarded, set-there}
use Rattle.ivy_host.specs.stated.Hosts.{Host, host_rules, turn_of}
use Rattle.ivy_host.specs.stated.Managers.{Managed, managed_ops}

-- moves that follow one another, taken apart
module _ {C : Type 0} (rules : Core C) (c : Config) where
  pub record Apart (xs ys : List Move) (w v : World C) : Type 0 where
    pub mid : World C
    pub before : Leads rules c w xs mid
    pub after : Leads rules c mid ys v

  pub leads_apart : (xs ys : List Move) (w v : World C) → Leads rules c w (xs ++ ys) v
      → Apart xs ys w v
  leads_apart [] ys w v led = record { mid = w; before = refl; after = led }
  leads_apart (x ∷ xs) ys w v led =
      let rest : Apart xs ys led.0 v = leads_apart xs ys led.0 v led.2 in
      record { mid = rest.mid; before = (led.0, led.1, rest.before); after = rest.after }

module _ (c : Config) where
  -- a turn that has an outcome
  posted_core : (n : Node (Host Managed)) (core : Host Managed) (ps : List Parcel)
      (e : Effect (Host Managed)) → posting n core ps ≡ Some e → e.after.core ≡ core
  posted_core n core ps e is =
      let parts =
      guarded (has_numbers n.link ps) (Some (record {
        after = record { core = core; link = (sends n.link ps).after };
        sent = map spelling (sends n.link ps).frames;
      })) e is in
      ap (λ (x : Effect (Host Managed)). x.after.core) (sym (same_Some _ e parts.1))

  turned_core : (n : Node (Host Managed)) (out : Outcome (Host Managed))
      → turn_of managed_ops n.core ≡ Some out → (e : Effect (Host Managed))
      → turned (host_rules managed_ops) n ≡ Some e → e.after.core ≡ out.after
  unfolding turned
  turned_core n out is e made =
      posted_core n out.after out.posted e
      (sym (ap (turned_to (host_rules managed_ops) n) is) ∙ made)

  turn_came : (w v : World (Host Managed)) (i : ℕ) (n : Node (Host Managed))
      → slice_get w.nodes i ≡ Some n → (out : Outcome (Host Managed))
      → turn_of managed_ops n.core ≡ Some out
      → turn_made_of (host_rules managed_ops) c w i (Some n) ≡ Some v
      → (m : Node (Host Managed)) × (slice_get v.nodes i ≡ Some m) × (m.core ≡ out.after)
  turn_came w v i n there out is made =
      let e = went w i (turned (host_rules managed_ops) n) v made in (
        e.0.after,
        ap (λ (x : World (Host Managed)). slice_get x.nodes i) (sym e.2)
            ∙ set-there w.nodes i e.0.after n there,
        turned_core n out is e.0 e.1,
      )

  turn_made : (w v : World (Host Managed)) (i : ℕ)
      → moved (host_rules managed_ops) c w (Turn i) ≡ Some v
      → turn_made_of (host_rules managed_ops) c w i (slice_get w.nodes i) ≡ Some v
  unfolding moved
  turn_made w v i eq =
      (guarded (is_named w (Turn i)) (made_by (host_rules managed_ops) c w (Turn i)) v eq).1

  pub turn_leads : (w v : World (Host Managed)) (i : ℕ) (n : Node (Host Managed))
      → slice_get w.nodes i ≡ Some n → (out : Outcome (Host Managed))
      → turn_of managed_ops n.core ≡ Some out → Moves (host_rules managed_ops) c w (Turn i) v
      → (m : Node (Host Managed)) × (slice_get v.nodes i ≡ Some m) × (m.core ≡ out.after)
  turn_leads w v i n there out is m =
      let came =
      turn_came w m.mid i n there out is
      (sym (ap (turn_made_of (host_rules managed_ops) c w i) there) ∙ turn_made w m.mid i m.made) in (
        came.0,
        ap (λ (x : World (Host Managed)). slice_get x.nodes i) m.goes_on.1 ∙ came.1,
        came.2,
      )
