-- All that programs of nodes that lend make is of one flat memory: a run of the nodes is one of a world
-- whose programs have, from the opening on, all that the owners hand in in the end.
use Rattle.std.proofs.Common.{◌≡◌, ◌≢◌, ◌⊎◌, ℕ, zero, suc, ◌+◌, ◌<◌, List, [], ◌∷◌, ◌++◌, length, map, set, slice_get, replicate, Contains, Option, Some, None, option_map, refl, sym, ap, subst, ◌∙◌, append-nil, append_assoc, arith, ⊎_elim}
use Rattle.std.proofs.lemmas.List.{length-map, length-set}
use Rattle.std.proofs.lemmas.Option.{none-some, same_Some, slice_get-map}
use Rattle.ivy_model.specs.declared.Config.{Config}
use Rattle.ivy_model.specs.declared.Record.{Record}
use Rattle.ivy_model.specs.stated.Config.{IsConfig}
use Rattle.ivy_program.specs.stated.Programs.{Program, Called}
use Rattle.ivy_moves.specs.declared.Keep.TheVariants.{History}
use Rattle.ivy_moves.specs.declared.Move.{Move}
use Rattle.ivy_moves.specs.stated.Worlds.{World}
use Rattle.ivy_host.specs.stated.Hosts.{Host}
use Rattle.ivy_host.specs.stated.Managers.{Managed, managed_ops}
use Rattle.ivy_host.specs.declared.opening.Opening.{Opening}
use Rattle.ivy_host.specs.stated.Openings.{managed_start, opening}
use Rattle.ivy_host.proofs.WellBehaved.{first-asking}
use Rattle.ivy_site.specs.SiteView.{SiteView}
use Rattle.ivy_site.specs.Sites.{first_opened}
use Rattle.ivy_site.proofs.Made.{first_made}
use Rattle.ivy_world.specs.WorldSites.{first_sites_from, world_of}
use Rattle.ivy_world.proofs.Worlds.{first_run-of, first_running-of}
use Rattle.proof_worlds.specs.stated.Keeping.{Keeps}
use Rattle.proof_worlds.specs.stated.RunState.{Run}
use Rattle.proof_worlds.proofs.headline.Headline.{keeps-reached}
use Rattle.ivy_embedded.specs.declared.lending.Lending.TheVariants as mark
use Rattle.ivy_embedded.specs.Lending.{LendsSoundly, lending_at, lending_in}
use Rattle.ivy_embedded.specs.Nodes.{Embedded, opened_embedded}
use Rattle.ivy_embedded.proofs.Lenders.{first_lender, soundly}
use Rattle.proof_lent.specs.Lent.{Lending, Unlent, Access, Made}
use Rattle.proof_lent.specs.LentWorlds as worlds
use Rattle.proof_lent.specs.LentWorlds.{GoesOnLent, IsOfOneMemory, LentWorld, made_as}
use Rattle.proof_lent.proofs.LentWorlds.{lent_pages_are_flat}
use Rattle.proof_embedded.specs.Driven.{Driven, first_from, opened, program_in}
use Rattle.proof_embedded.specs.Mapped.{Mapped, Happening, Ask, Lend, GiveBack, GoOn, Look, Point, HappenTo, HappensSo, AddsMade, AreOfOneMemory, AreOfOneWorld, GrowAsOneMemory, IsGivenBack, IsLent, IsPointed, LeavesImages, NodesThatLendAreFlat, lending_of, lent_by, lent_in}
use Rattle.proof_embedded.proofs.Effects.{asked_lent}
use Rattle.proof_embedded.proofs.Acting.{IsNodeSite}
use Rattle.proof_embedded.proofs.Along.{along, along_own, along_there}
use Rattle.proof_embedded.proofs.Bridges.{back_shows, gives_back, lent_shows, lends_page, none_added, pointed_image, pointed_shows, touches, world_at}
use Rattle.proof_embedded.proofs.Driving.{nodes_seen, none_waits}
use Rattle.proof_embedded.proofs.Emptied.{with_strings}
use Rattle.proof_embedded.proofs.LentMoves.{LeadsLent, lent_world}
use Rattle.proof_embedded.proofs.Lifted.{as_run}
use Rattle.proof_embedded.proofs.Marks.{lent_kept, lent_within, more_lent, with_image}
use Rattle.proof_embedded.proofs.Moments.{HasGone, IsMoment, gone_on, kept_now, program_at, still_next}
use Rattle.proof_embedded.proofs.Touching.{AllExtend, IsTouched, extended, kept_on, touched}

map_append : {X Y : Type 0} (f : X → Y) (xs ys : List X) → map f (xs ++ ys) ≡ map f xs ++ map f ys
map_append f [] ys = refl
map_append f (x ∷ xs) ys = ap (λ l. f x ∷ l) (map_append f xs ys)

-- moves, and then what happens besides
abbrev with_moves : List Move → List worlds.Happening → List worlds.Happening
with_moves [] rest = rest
with_moves (step ∷ steps) rest = worlds.Moved step ∷ with_moves steps rest

module _ (c : Config) where
  head_of : (l : LentWorld) (made : List Made) (hs : List worlds.Happening) → GoesOnLent c l made hs
      → IsOfOneMemory c l made
  head_of l made [] g = g
  head_of l made (h ∷ hs) g = g.0

  -- what was made goes on by records, while moves are made
  advance : (moves : List Move) (l end : LentWorld) (made : List Made) (rest : List worlds.Happening)
      → LeadsLent c l moves end → GoesOnLent c l made (with_moves moves rest)
      → (records : List Record) × GoesOnLent c end (made ++ map (made_as c l.lent) records) rest
  advance [] l end made rest led g = (
    [],
    subst (λ ms. GoesOnLent c end ms rest) (sym (append-nil made))
        (subst (λ x. GoesOnLent c x made rest) (sym led) g),
  )
  advance (step ∷ moves) l end made rest led g =
      let on = g.1 led.0 led.1 in
      let then = advance moves led.0 end (made ++ on.0) rest led.2 on.2 in
      let same : (led.0).lent ≡ l.lent = λ k i p. led.1.lent i p k in
      let whole : (made ++ on.0) ++ map (made_as c (led.0).lent) then.0
      ≡ made ++ map (made_as c l.lent) (on.1.0 ++ then.0) =
      append_assoc made on.0 (map (made_as c (led.0).lent) then.0)
      ∙ ap (λ f. made ++ (on.0 ++ map (made_as c f) then.0)) same
      ∙ ap (λ x. made ++ (x ++ map (made_as c l.lent) then.0)) on.1.1
      ∙ ap (λ x. made ++ x) (sym (map_append (made_as c l.lent) on.1.0 then.0)) in
      (on.1.0 ++ then.0, subst (λ ms. GoesOnLent c end ms rest) whole then.1)

module _ (o : Opening) (c : Config) (limits : IsConfig c) (ps : List Program)
    (few : length ps ≡ c.nodes) where
  abbrev Moment : Driven → Type 0
  Moment d = IsMoment o c limits ps few d

  -- the lendings and images of a world are those of this moment, as far as programs see them
  record AreSeen (m : Mapped) (loans : ℕ → ℕ → Lending) (image : ℕ → ℕ → List ℕ) : Type 0 where
    same : (i p : ℕ) → loans i p ≡ lent_in m i p
    shows : (i p : ℕ) → lent_in m i p ≢ Unlent → image i p ≡ m.image i p

  memory_now : (m : Mapped) (at : Moment m.driven) (loans : ℕ → ℕ → Lending) (image : ℕ → ℕ → List ℕ)
      → AreSeen m loans image → (made : List Made)
      → IsOfOneMemory c (world_at o c limits ps few loans image m.driven at) made
      → AreOfOneMemory c m made
  memory_now m at loans image seen made g = record {
    legal = g.legal;
    parts = λ i e there.
        (let p = program_at o c limits ps few m.driven at i e there in
        g.parts i (as_run p.0 [] e.site).node
        (slice_get-map (λ (s : SiteView). s.node) (along ps m.driven.nodes) i
        ∙ ap (option_map (λ (s : SiteView). s.node)) (along_there ps m.driven.nodes i p.0 e p.1 there)));
    apart = λ i j p writes ne.
        sym (seen.same j p) ∙ g.apart i j p (seen.same i p ∙ writes) ne;
  }

  -- what happens after the moves of a node, if anything does, and how the world is seen then
  record Bridge (mid : Mapped) (next : Moment mid.driven) (loans : ℕ → ℕ → Lending)
      (image : ℕ → ℕ → List ℕ) : Type 0 where
    loans' : ℕ → ℕ → Lending
    image' : ℕ → ℕ → List ℕ
    seen : AreSeen mid loans' image'
    way : List worlds.Happening → List worlds.Happening
    over : (made : List Made) (rest : List worlds.Happening)
        → GoesOnLent c (world_at o c limits ps few loans image mid.driven next) made (way rest)
        → GoesOnLent c (world_at o c limits ps few loans' image' mid.driven next) made rest

  module _ (old new : Mapped) (i : ℕ) (s t : Embedded) (there : slice_get old.driven.nodes i ≡ Some s)
      (nodes : new.driven.nodes ≡ set old.driven.nodes i t) (next : Moment new.driven)
      (loans : ℕ → ℕ → Lending) (image : ℕ → ℕ → List ℕ) (seen : AreSeen old loans image)
      (images : LeavesImages old new) where
    -- nothing is lent or given back
    no_bridge : t.lent ≡ s.lent → Bridge new next loans image
    no_bridge lent =
        let kept : (j p : ℕ) → lent_in new j p ≡ lent_in old j p =
        lent_kept old.driven.nodes new.driven.nodes i s t there nodes lent in
        record {
          loans' = loans;
          image' = image;
          seen = record {
            same = λ j p. seen.same j p ∙ sym (kept j p);
            shows = λ j p some.
                (let before : lent_in old j p ≢ Unlent = λ e. some (kept j p ∙ e) in
                seen.shows j p before ∙ sym (images j p before));
          };
          way = λ rest. rest;
          over = λ made rest g. g;
        }

  -- a page is lent, or it is not
  lend_bridge : (i page number : ℕ) (old new : Mapped) → IsLent i page number old new
      → (at : Moment old.driven) (next : Moment new.driven) (loans : ℕ → ℕ → Lending)
      (image : ℕ → ℕ → List ℕ) → AreSeen old loans image → Bridge new next loans image
  lend_bridge i page number old new h at next loans image seen =
      ⊎_elim
      (λ does.
      (let to = does.1 in
      let may = does.3 in
      let sound = at.sound i h.call.before h.call.there in
      let within : page < length (h.call.before).lent =
      (let inside = may.can.inside in let long = sound.each in omega (arith, inside, long)) in
      let then = world_at o c limits ps few (lent_in new)
      (with_image image i page (new.image i page)) new.driven next in
      record {
        loans' = lent_in new;
        image' = with_image image i page (new.image i page);
        seen = record {
          same = λ j p. refl;
          shows = lent_shows o c limits ps few i old new h.call at next loans image seen.same
              seen.shows page to does.4 within h.images number may h.shown;
        };
        way = λ rest. worlds.Lent i page (lending_of to) ∷ rest;
        over = λ made rest g.
            none_added c then made rest
            (g.1 then
            (lends_page o c limits ps few i old new h.call at next loans image seen.same seen.shows
            page to does.4 within h.images number may h.shown));
      }))
      (λ refused.
      no_bridge old new i h.call.before h.call.after h.call.there h.call.nodes next loans image seen
      h.images (ap (λ (e : Embedded). e.lent) refused.1)) h.does

  -- it is given back, or it is not
  back_bridge : (i page number : ℕ) (old new : Mapped) → IsGivenBack i page number old new
      → (at : Moment old.driven) (next : Moment new.driven) (loans : ℕ → ℕ → Lending)
      (image : ℕ → ℕ → List ℕ) → AreSeen old loans image → Bridge new next loans image
  back_bridge i page number old new h at next loans image seen =
      ⊎_elim
      (λ does.
      (let on = does.1 in
      let more = does.3 in
      let within = lent_within (h.call.before).lent page
      (λ e. more_lent (lending_at h.call.before page) on more (ap lending_of e)) in
      let then = world_at o c limits ps few (lent_in new) image new.driven next in
      record {
        loans' = lent_in new;
        image' = image;
        seen = record {
          same = λ j p. refl;
          shows = back_shows o c limits ps few i old new h.call at next loans image seen.same
              seen.shows page on does.4 within h.images more h.stored;
        };
        way = λ rest. worlds.GivenBack i page (lending_of on) ∷ rest;
        over = λ made rest g.
            none_added c then made rest
            (g.1 then
            (gives_back o c limits ps few i old new h.call at next loans image seen.same seen.shows
            page on does.4 within h.images more h.stored));
      }))
      (λ refused.
      no_bridge old new i h.call.before h.call.after h.call.there h.call.nodes next loans image seen
      h.images (ap (λ (e : Embedded). e.lent) refused.1)) h.does

  -- it is a function of a node
  abbrev IsOfNode : Happening → Type 0
  IsOfNode (Point a) = ⊥
  IsOfNode h = Unit {0}

  bridge : (h : Happening) → IsOfNode h → (old new : Mapped) → HappensSo c h old new
      → (at : Moment old.driven) (next : Moment new.driven) (loans : ℕ → ℕ → Lending)
      (image : ℕ → ℕ → List ℕ) → AreSeen old loans image → Bridge new next loans image
  bridge (Ask i request) of old new h at next loans image seen =
      no_bridge old new i h.asks.before h.asks.after h.asks.there h.asks.nodes next loans image seen
      h.images
      (asked_lent request old.driven.strings new.driven.strings h.asks.before h.asks.after h.asks.does)
  bridge (Lend i page number) of old new h at next loans image seen =
      lend_bridge i page number old new h at next loans image seen
  bridge (GiveBack i page number) of old new h at next loans image seen =
      back_bridge i page number old new h at next loans image seen
  bridge (GoOn i peer) of old new h at next loans image seen =
      no_bridge old new i h.call.before h.call.after h.call.there h.call.nodes next loans image seen
      h.images
      (⊎_elim (λ does. does.2.on.2) (λ refused. ap (λ (e : Embedded). e.lent) refused.1) h.does)
  bridge (Look i bytes) of old new h at next loans image seen =
      no_bridge old new i h.call.before h.call.after h.call.there h.call.nodes next loans image seen
      h.images
      (⊎_elim (λ does. ap (λ (e : Embedded). e.lent) does.0) (λ none. absurd none.0) h.does)
  bridge (Point a) of old new h at next loans image seen = absurd of

  adds_records : (h : Happening) → IsOfNode h → (m : Mapped) (records : List Record)
      → AddsMade c h m (map (made_as c (lent_in m)) records)
  adds_records (Ask i request) of m records = (records, refl)
  adds_records (Lend i page number) of m records = (records, refl)
  adds_records (GiveBack i page number) of m records = (records, refl)
  adds_records (GoOn i peer) of m records = (records, refl)
  adds_records (Look i bytes) of m records = (records, refl)
  adds_records (Point a) of m records = absurd of

  -- what happens to the nodes, as what happens to a world, and so what was made goes on
  abbrev Follows : (m : Mapped) (hs : List Happening) (end : Mapped) → HappenTo c m hs end
      → (at : Moment m.driven) → (ℕ → ℕ → Lending) → (ℕ → ℕ → List ℕ) → Type 0
  Follows m hs end led at loans image = (rest : List worlds.Happening)
      × ((made : List Made)
      → GoesOnLent c (world_at o c limits ps few loans image m.driven at) made rest
      → GrowAsOneMemory c m made hs end led)

  follow_node : (h : Happening) → IsOfNode h → (hs : List Happening) (m end : Mapped)
      (led : HappenTo c m (h ∷ hs) end) (at : Moment m.driven) (loans : ℕ → ℕ → Lending)
      (image : ℕ → ℕ → List ℕ) (seen : AreSeen m loans image)
      (gone : HasGone o c limits ps few loans image m.driven (led.0).driven at seen.same)
      (on : Bridge led.0 gone.next loans image)
      → Follows led.0 hs end led.2 gone.next on.loans' on.image'
      → Follows m (h ∷ hs) end led at loans image
  follow_node h of hs m end led at loans image seen gone on rest = (
    with_moves gone.moves (on.way rest.0),
    λ made g.
        (let adv =
        advance c gone.moves (world_at o c limits ps few loans image m.driven at)
        (world_at o c limits ps few loans image (led.0).driven gone.next) made (on.way rest.0)
        gone.leads g in
        let same : loans ≡ lent_in m = λ k i p. seen.same i p k in (
          memory_now m at loans image seen made
              (head_of c (world_at o c limits ps few loans image m.driven at) made
              (with_moves gone.moves (on.way rest.0)) g),
          (
            map (made_as c (lent_in m)) adv.0,
            adds_records h of m adv.0,
            rest.1 (made ++ map (made_as c (lent_in m)) adv.0)
                (subst (λ f. GoesOnLent c
                (world_at o c limits ps few on.loans' on.image' (led.0).driven gone.next)
                (made ++ map (made_as c f) adv.0) rest.0) same
                (on.over (made ++ map (made_as c loans) adv.0) rest.0 adv.1)),
          ),
        )),
  )

  module _ (h : Happening) (hs : List Happening) (m end : Mapped) (led : HappenTo c m (h ∷ hs) end)
      (is : ps ≡ map program_in end.driven.nodes) (at : Moment m.driven) (loans : ℕ → ℕ → Lending)
      (image : ℕ → ℕ → List ℕ) (same : (i p : ℕ) → loans i p ≡ lent_in m i p) where
    touch : ((led.0).driven ≡ m.driven) ⊎ IsTouched c m.driven (led.0).driven
    touch = touched c limits h m led.0 led.1 (kept_now o c limits ps few m.driven at)

    goes : HasGone o c limits ps few loans image m.driven (led.0).driven at same
    goes =
        gone_on o c limits ps few loans image m.driven (led.0).driven at same
        (subst (λ x. AllExtend x (led.0).driven) (sym is)
        (extended c limits hs led.0 end led.2
        (kept_on c limits m.driven (led.0).driven (kept_now o c limits ps few m.driven at) touch)))
        touch

  module _ (a : Access) (m mid : Mapped) (point : IsPointed c a m mid) (at : Moment m.driven)
      (loans : ℕ → ℕ → Lending) (image : ℕ → ℕ → List ℕ) (seen : AreSeen m loans image) where
    stays : (next : Moment mid.driven) × (next.sent ≡ at.sent)
    stays = still_next o c limits ps few m.driven mid.driven point.driven at

    abbrev image_then : ℕ → ℕ → List ℕ
    image_then = pointed_image o c limits ps few a m mid point at loans image seen.same seen.shows

    lent_still : (j p : ℕ) → lent_in mid j p ≡ lent_in m j p
    lent_still j p = ap (λ (d : Driven). lent_by (slice_get d.nodes j) p) point.driven

    seen_then : AreSeen mid loans image_then
    seen_then = record {
      same = λ j p. seen.same j p ∙ sym (lent_still j p);
      shows = λ j p some.
          pointed_shows o c limits ps few a m mid point at loans image seen.same seen.shows j p
          (λ e. some (lent_still j p ∙ e));
    }

    world_then : world_at o c limits ps few loans image_then mid.driven stays.0
        ≡ world_at o c limits ps few loans image_then m.driven at
    world_then = λ k. lent_world c loans image_then (along ps (point.driven k).nodes) (stays.1 k)

    follow_point : (hs : List Happening) (end : Mapped) (led : HappenTo c mid hs end)
        → Follows mid hs end led stays.0 loans image_then
        → Follows m (Point a ∷ hs) end (mid, point, led) at loans image
    follow_point hs end led rest = (
      worlds.Accessed a ∷ rest.0,
      λ made g.
          (let on = g.1 (world_at o c limits ps few loans image_then m.driven at)
          (touches o c limits ps few a m mid point at loans image seen.same seen.shows) in (
            memory_now m at loans image seen made g.0,
            (
              on.0,
              on.1,
              rest.1 (made ++ on.0)
                  (subst (λ x. GoesOnLent c x (made ++ on.0) rest.0) (sym world_then) on.2),
            ),
          )),
    )

  grows : (hs : List Happening) (m end : Mapped) (led : HappenTo c m hs end)
      → ps ≡ map program_in end.driven.nodes → (at : Moment m.driven) (loans : ℕ → ℕ → Lending)
      (image : ℕ → ℕ → List ℕ) → AreSeen m loans image → Follows m hs end led at loans image
  grows [] m end led is at loans image seen =
      ([], λ made g. memory_now m at loans image seen made g)
  grows (Point a ∷ hs) m end led is at loans image seen =
      follow_point a m led.0 led.1 at loans image seen hs end led.2
      (grows hs led.0 end led.2 is (stays a m led.0 led.1 at loans image seen).0 loans
      (image_then a m led.0 led.1 at loans image seen)
      (seen_then a m led.0 led.1 at loans image seen))
  grows (h ∷ hs) m end led is at loans image seen =
      let gone = goes h hs m end led is at loans image seen.same in
      let on = bridge h tt m led.0 led.1 at gone.next loans image seen in
      follow_node h tt hs m end led at loans image seen gone on
      (grows hs led.0 end led.2 is gone.next on.loans' on.image' on.seen)

  -- the nodes at the end
  at_end : (hs : List Happening) (m end : Mapped) → HappenTo c m hs end
      → ps ≡ map program_in end.driven.nodes → Moment m.driven → Moment end.driven
  at_end [] m end led is at = subst (λ (x : Mapped). Moment x.driven) (sym led) at
  at_end (h ∷ hs) m end led is at =
      at_end hs led.0 end led.2 is
      (goes h hs m end led is at (lent_in m) m.image (λ i p. refl)).next

  pub one_world : (d : Driven) → ps ≡ map program_in d.nodes → Moment d → AreOfOneWorld c o d
  one_world d is at =
      let w : World (Host Managed) = world_of (along ps d.nodes) at.sent in
      record {
        world = w;
        keeps = subst (λ qs. Keeps (record { config = c; opened = o; programs = qs; world = w })) is
            (keeps-reached (record { config = c; opened = o; programs = ps; world = w }) limits few
            (at.before, at.led));
        nodes = ap (λ qs. map (λ (s : SiteView). s.node) (along qs d.nodes)) is
            ∙ ap (map (λ (s : SiteView). s.node)) (along_own d.nodes) ∙ nodes_seen d.nodes;
        sent = at.taken;
      }

-- the nodes as they begin

first_along : (o : Opening) (c : Config) (me : ℕ) (ps : List Program) (left : ℕ) → length ps ≡ left
    → along ps (first_from o c me left) ≡ first_sites_from o c me ps
first_along o c me [] zero few = refl
first_along o c me [] (suc left) few = refl
first_along o c me (p ∷ ps) zero few = absurd (omega (arith, few))
first_along o c me (p ∷ ps) (suc left) few =
    ap (λ l. first_opened o History c me p ∷ l)
    (first_along o c (me + 1) ps left (omega (arith, few)))

first_length : (o : Opening) (c : Config) (me left : ℕ) → length (first_from o c me left) ≡ left
first_length o c me zero = refl
first_length o c me (suc left) = ap suc (first_length o c (me + 1) left)

first_is : (o : Opening) (c : Config) (me left i : ℕ) (e : Embedded)
    → slice_get (first_from o c me left) i ≡ Some e → e ≡ opened_embedded o c (me + i)
first_is o c me zero i e at = absurd (none-some e at)
first_is o c me (suc left) zero e at =
    sym (same_Some (opened_embedded o c me) e at)
    ∙ ap (opened_embedded o c) (let n : me ≡ me + 0 = omega arith in n)
first_is o c me (suc left) (suc i) e at =
    first_is o c (me + 1) left i e at
    ∙ ap (opened_embedded o c) (let n : me + 1 + i ≡ me + suc i = omega arith in n)

first_node : (o : Opening) (c : Config) (i : ℕ)
    → IsNodeSite c i [] (with_strings [] (opened_embedded o c i).site)
first_node o c i = record {
  config = refl;
  me = refl;
  made = first_made o History c i (Called [] []);
  early = λ bytes has. has;
  own = record {
    called = tt;
    asking = first-asking managed_ops (managed_start o) c i (Called [] []);
    fetched = refl;
  };
}

first_sound : (o : Opening) (c : Config) (i : ℕ) → LendsSoundly (opened_embedded o c i)
first_sound o c i =
    soundly (opened_embedded o c i) 0
    (first_lender o c i (opened_embedded o c i).site (opened_embedded o c i).lent refl refl)

unlent_all : (n p : ℕ) → lending_in (replicate n mark.Unlent) p ≡ mark.Unlent
unlent_all zero p = refl
unlent_all (suc n) zero = refl
unlent_all (suc n) (suc p) = unlent_all n p

first_unlent : (o : Opening) (c : Config) (i p : ℕ)
    → lent_by (slice_get (opened o c).nodes i) p ≡ Unlent
first_unlent o c i p = by (slice_get (opened o c).nodes i) refl
  where
    by : (found : Option Embedded) → slice_get (opened o c).nodes i ≡ found
        → lent_by found p ≡ Unlent
    by None is = refl
    by (Some e) is =
        ap (λ (x : Embedded). lending_of (lending_in x.lent p)) (first_is o c 0 c.nodes i e is)
        ∙ ap lending_of (unlent_all c.pages p)

module _ (o : Opening) (c : Config) (limits : IsConfig c) (ps : List Program)
    (few : length ps ≡ c.nodes) where
  abbrev first_sites : List SiteView
  first_sites = along ps (opened o c).nodes

  first_world : world_of first_sites [] ≡ opening (managed_start o) c ps
  first_world =
      ap (λ (r : Run). r.world)
      (first_run-of o c ps first_sites [] (first_along o c 0 ps c.nodes few) refl)

  first_moment : (at : IsMoment o c limits ps few (opened o c)) × (at.sent ≡ [])
  first_moment = (
    record {
      sent = [];
      are = (first_running-of o c ps first_sites [] limits few (first_along o c 0 ps c.nodes few)
          refl).nodes;
      each = few ∙ sym (first_length o c 0 c.nodes);
      real = λ i e at. subst (λ (x : Embedded). IsNodeSite c i [] (with_strings [] x.site))
          (sym (first_is o c 0 c.nodes i e at
          ∙ ap (opened_embedded o c) (let n : 0 + i ≡ i = omega arith in n)))
          (first_node o c i);
      sound = λ i e at. subst LendsSoundly (sym (first_is o c 0 c.nodes i e at))
          (first_sound o c (0 + i));
      taken = λ bytes has. has;
      waits = λ i e at bytes has.
          subst (λ l. Contains l bytes) (none_waits o c 0 c.nodes i e at) has;
      before = [];
      led = first_world;
    },
    refl,
  )

-- as many nodes at the end as there were

many_now : (c : Config) (h : Happening) (m mid : Mapped) → HappensSo c h m mid
    → length mid.driven.nodes ≡ length m.driven.nodes
many_now c (Ask i request) m mid h =
    ap length h.asks.nodes ∙ length-set m.driven.nodes i h.asks.after
many_now c (Lend i page number) m mid h =
    ap length h.call.nodes ∙ length-set m.driven.nodes i h.call.after
many_now c (GiveBack i page number) m mid h =
    ap length h.call.nodes ∙ length-set m.driven.nodes i h.call.after
many_now c (GoOn i peer) m mid h =
    ap length h.call.nodes ∙ length-set m.driven.nodes i h.call.after
many_now c (Look i bytes) m mid h =
    ap length h.call.nodes ∙ length-set m.driven.nodes i h.call.after
many_now c (Point a) m mid h = ap (λ (d : Driven). length d.nodes) h.driven

many_end : (c : Config) (hs : List Happening) (m end : Mapped) → HappenTo c m hs end
    → length end.driven.nodes ≡ length m.driven.nodes
many_end c [] m end led = ap (λ (x : Mapped). length x.driven.nodes) led
many_end c (h ∷ hs) m end led =
    many_end c hs led.0 end led.2 ∙ many_now c h m led.0 led.1

-- from the opening on

abbrev start_of : Opening → Config → (ℕ → ℕ → List ℕ) → Mapped
start_of o c image = record { driven = opened o c; image = image }

from_opening : (o : Opening) (c : Config) → IsConfig c → (image : ℕ → ℕ → List ℕ)
    (hs : List Happening) (end : Mapped) (led : HappenTo c (start_of o c image) hs end)
    → GrowAsOneMemory c (start_of o c image) [] hs end led × AreOfOneWorld c o end.driven
from_opening o c limits image hs end led =
    let ps : List Program = map program_in end.driven.nodes in
    let few : length ps ≡ c.nodes =
    length-map end.driven.nodes program_in
    ∙ (many_end c hs (start_of o c image) end led ∙ first_length o c 0 c.nodes) in
    let first = first_moment o c limits ps few in
    let loans = lent_in (start_of o c image) in
    let g = grows o c limits ps few hs (start_of o c image) end led refl first.0 loans image
    (record { same = λ i p. refl; shows = λ i p some. refl }) in
    let opens : world_of (along ps (opened o c).nodes) (first.0).sent
    ≡ opening (managed_start o) c ps =
    ap (world_of (along ps (opened o c).nodes)) first.1 ∙ first_world o c limits ps few in (
      g.1 []
          (lent_pages_are_flat o c limits ps few
          (world_at o c limits ps few loans image (opened o c) first.0) opens
          (first_unlent o c) g.0),
      one_world o c limits ps few end.driven refl
          (at_end o c limits ps few hs (start_of o c image) end led refl first.0),
    )

pub nodes_that_lend_are_flat : NodesThatLendAreFlat
nodes_that_lend_are_flat o c limits start opens hs end =
    let same : start ≡ start_of o c start.image =
    λ k. record { driven = opens k; image = start.image } in
    subst (λ (m : Mapped). (led : HappenTo c m hs end)
    → GrowAsOneMemory c m [] hs end led × AreOfOneWorld c o end.driven) (sym same)
    (λ led. from_opening o c limits start.image hs end led)
