-- A world whose moves led to it is one of moves still where the owner of a node hands in more.
use Rattle.std.proofs.Common.{◌≡◌, ◌≢◌, ◌∙◌, ℕ, zero, suc, ◌==◌, ◌+◌, List, [], ◌∷◌, length, length-set, map, set, slice_get, Option, Some, None, option_map, if◌then◌else◌, refl, sym, ap, arith, inl, inr}
use Rattle.std.proofs.lemmas.Bool.{cases_eq, eq-eqb, ne_eqb}
use Rattle.std.proofs.lemmas.List.{length-map}
use Rattle.std.proofs.lemmas.Option.{none-some, same_Some, slice_get-map}
use Rattle.ivy_model.specs.declared.Config.{Config}
use Rattle.ivy_program.specs.stated.Programs.{Program}
use Rattle.ivy_moves.specs.Carrying.{IsChangedBy, node_changed}
use Rattle.ivy_moves.specs.stated.Nodes.{Node}
use Rattle.ivy_moves.proofs.Places.{set-elsewhere, set-there}
use Rattle.ivy_host.specs.stated.Hosts.{Host}
use Rattle.ivy_host.specs.stated.Managers.{Managed}
use Rattle.ivy_host.specs.stated.Openings.{Start, first_node, first_nodes, opening}
use Rattle.ivy_site.specs.SiteView.{SiteView}
use Rattle.ivy_site.specs.Sites.{early_at}
use Rattle.ivy_world.specs.WorldSites.{AreSites, programs_of, world_of}
use Rattle.ivy_world.proofs.Making.{changed_are, same_map}
use Rattle.proof_embedded.proofs.Additions.{Addition, grown, grown_early, grown_made, growing, site_grown}

-- what each of these programs was handed more, by its number
pub record AreGrown (more : ℕ → List Addition) (old new : List Program) : Type 0 where
  pub count : length new ≡ length old
  pub each : (i : ℕ) (p : Program) → slice_get old i ≡ Some p
      → slice_get new i ≡ Some (grown (more i) p)

as_many : {X Y : Type 0} (xs ys : List X) (y : Y) → length ys ≡ length xs
    → map (λ (x : X). y) ys ≡ map (λ (x : X). y) xs
as_many [] [] y e = refl
as_many [] (z ∷ ys) y e = absurd (omega (arith, e))
as_many (x ∷ xs) [] y e = absurd (omega (arith, e))
as_many (x ∷ xs) (z ∷ ys) y e = ap (λ l. y ∷ l) (as_many xs ys y (omega (arith, e)))

module _ (start : Start Managed) (c : Config) where
  first_nodes-at : (me i k : ℕ) (ps : List Program) → k ≡ me + i
      → slice_get (first_nodes start c me ps) i ≡ option_map (first_node start c k) (slice_get ps i)
  first_nodes-at me i k [] e = refl
  first_nodes-at me zero k (p ∷ ps) e =
      ap (λ j. Some (first_node start c j p)) (let same : me ≡ k = omega (arith, e) in same)
  first_nodes-at me (suc i) k (p ∷ ps) e = first_nodes-at (me + 1) i k ps (omega (arith, e))

  first_nodes-length : (me : ℕ) (ps : List Program) → length (first_nodes start c me ps) ≡ length ps
  first_nodes-length me [] = refl
  first_nodes-length me (p ∷ ps) = ap suc (first_nodes-length (me + 1) ps)

  module _ (more : ℕ → List Addition) (old new : List Program) (h : AreGrown more old new) where
    grown-at : (i : ℕ) (n : Node (Host Managed)) (o : Option Program) → slice_get old i ≡ o
        → option_map (first_node start c i) o ≡ Some n
        → slice_get (first_nodes start c 0 new) i ≡ Some (node_changed (growing (more i)) n)
    grown-at i n None there is = absurd (none-some n is)
    grown-at i n (Some p) there is =
        first_nodes-at 0 i i new (omega arith)
        ∙ ap (option_map (first_node start c i)) (h.each i p there)
        ∙ ap (λ m. Some (node_changed (growing (more i)) m)) (same_Some (first_node start c i p) n is)

    -- the opening of the longer programs is the other one, with this change at each node
    pub opening_grown :
        IsChangedBy (λ i. growing (more i)) (opening start c old) (opening start c new)
    opening_grown = record {
      there = λ i n at. grown-at i n (slice_get old i) refl
          (sym (first_nodes-at 0 i i old (omega arith)) ∙ at);
      count = first_nodes-length 0 new ∙ h.count ∙ sym (first_nodes-length 0 old);
      sent = refl;
      early = as_many old new [] h.count;
    }

module _ (c : Config) (sites : List SiteView) (sent : List (List ℕ)) (node : ℕ) (old : SiteView)
    (there : slice_get sites node ≡ Some old) (more : List Addition) (are : AreSites c sites) where
  abbrev new : SiteView
  new = site_grown more old

  abbrev sites' : List SiteView
  sites' = set sites node new

  -- this node is handed so much more, the others nothing
  abbrev pub more_at : ℕ → List Addition
  more_at i = if i == node then more else []

  more_here : more_at node ≡ more
  more_here = ap (λ b. if b then more else []) (eq-eqb node node refl)

  more_there : (i : ℕ) → i ≢ node → more_at i ≡ []
  more_there i apart = ap (λ b. if b then more else []) (ne_eqb i node apart)

  -- what the sites show of what this changes
  module _ {Y : Type 0} (f : SiteView → Y) (g : List Addition → Y → Y) (none : (y : Y) → g [] y ≡ y)
      (is : f new ≡ g more (f old)) where
    changed_there : (i : ℕ) (y : Y) → slice_get (map f sites) i ≡ Some y
        → slice_get (map f sites') i ≡ Some (g (more_at i) y)
    changed_there i y at = elim (cases_eq i node) [
      | inl same ↦
          (let here : slice_get (map f sites) i ≡ Some (f old) =
          slice_get-map f sites i ∙ ap (λ j. option_map f (slice_get sites j)) same
          ∙ ap (option_map f) there in
          slice_get-map f sites' i ∙ ap (λ j. option_map f (slice_get sites' j)) same
          ∙ ap (option_map f) (set-there sites node new old there)
          ∙ ap Some is
          ∙ ap (λ m. Some (g m (f old))) (sym more_here)
          ∙ ap (λ j. Some (g (more_at j) (f old))) (sym same)
          ∙ ap (λ x. Some (g (more_at i) x)) (same_Some (f old) y (sym here ∙ at)))
      | inr apart ↦
          slice_get-map f sites' i
          ∙ ap (option_map f) (set-elsewhere sites node i new (λ e. apart (sym e)))
          ∙ sym (slice_get-map f sites i) ∙ at
          ∙ ap Some (sym (none y))
          ∙ ap (λ m. Some (g m y)) (sym (more_there i apart))
    ]

    changed_count : length (map f sites') ≡ length (map f sites)
    changed_count =
        length-map sites' f ∙ length-set sites node new ∙ sym (length-map sites f)

  pub world_grown : IsChangedBy (λ i. growing (more_at i)) (world_of sites sent)
      (world_of sites' sent)
  world_grown = record {
    there = changed_there (λ (s : SiteView). s.node) (λ m. node_changed (growing m)) (λ n. refl) refl;
    count = changed_count (λ (s : SiteView). s.node) (λ m. node_changed (growing m)) (λ n. refl) refl;
    sent = refl;
    early = same_map early_at sites node old new there
        (grown_early more old (are.made node old there));
  }

  pub programs_grown : AreGrown more_at (programs_of sites) (programs_of sites')
  programs_grown = record {
    count = changed_count (λ (s : SiteView). s.node.core.process.program) grown (λ p. refl) refl;
    each = changed_there (λ (s : SiteView). s.node.core.process.program) grown (λ p. refl) refl;
  }

  pub sites_grown : AreSites c sites'
  sites_grown =
      changed_are c sites node old new are there refl refl refl (are.none_waits node old there)
      (grown_made more old (are.made node old there))
