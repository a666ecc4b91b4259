-- Pages that a node lends, and takes back, at a moment: so a world that lends does.
use Rattle.std.proofs.Common.{◌≡◌, ◌≢◌, ◌⊎◌, inl, inr, ℕ, ◌<◌, ◌≤◌, true, List, [], ◌++◌, length, slice_get, Some, refl, sym, ap, subst, ◌∙◌, append-nil, arith, ⊎_elim}
use Rattle.std.proofs.lemmas.Option.{slice_get_cases, slice_get_past}
use Rattle.ivy_model.specs.declared.Config.{Config}
use Rattle.ivy_model.specs.stated.Config.{IsConfig}
use Rattle.ivy_pagetable.specs.stated.Tables.{entry_at, page_at}
use Rattle.ivy_program.specs.stated.Programs.{Program}
use Rattle.ivy_host.specs.declared.opening.Opening.{Opening}
use Rattle.ivy_moves.proofs.Places.{set-cases}
use Rattle.ivy_site.specs.SiteView.{SiteView}
use Rattle.proof_worlds.specs.consistency.Alone.{bytes_in, entries_in}
use Rattle.ivy_embedded.specs.declared.lending.Lending.{Lending as Mark}
use Rattle.ivy_embedded.specs.declared.lending.Lending.TheVariants as mark
use Rattle.ivy_embedded.specs.Lending.{is_more, lending_at, lending_in}
use Rattle.ivy_embedded.specs.Lends.{MayLend, with_lending}
use Rattle.ivy_embedded.specs.Nodes.{Embedded}
use Rattle.ivy_embedded.proofs.Delivered.{table_of}
use Rattle.ivy_embedded.proofs.Going.{core_of}
use Rattle.proof_lent.specs.Lent.{Lending, Unlent, Access, Does, IsApart, Made}
use Rattle.proof_lent.specs.LentWorlds as lent
use Rattle.proof_lent.specs.LentWorlds.{GivesBackPage, GoesOnLent, LendsPage, LendsSoundly, LentWorld, SufficesFor, Touches}
use Rattle.proof_embedded.specs.Driven.{Driven}
use Rattle.proof_embedded.specs.Mapped.{Mapped, IsCalled, IsPointed, LeavesImages, bytes_at, lending_of, lent_by, lent_in}
use Rattle.proof_embedded.proofs.Along.{along, along_there}
use Rattle.proof_embedded.proofs.LentMoves.{bytes_are, entry_is, had_suffices, lent_world}
use Rattle.proof_embedded.proofs.Lifted.{as_run}
use Rattle.proof_embedded.proofs.Marks.{apart_or, image_apart, image_here, lending_write, lent_apart, lent_now, mark_unlent, mark_write, more_lent, more_reads, now_at, with_image}
use Rattle.proof_embedded.proofs.Moments.{IsMoment, program_at}

-- where it adds nothing, what was made stays
pub none_added : (c : Config) (l : LentWorld) (made : List Made) (rest : List lent.Happening)
    → ((more : List Made) × (more ≡ []) × GoesOnLent c l (made ++ more) rest)
    → GoesOnLent c l made rest
none_added c l made rest g =
    subst (λ ms. GoesOnLent c l ms rest) (ap (λ x. made ++ x) g.1 ∙ append-nil made) g.2

module _ (o : Opening) (c : Config) (limits : IsConfig c) (ps : List Program)
    (few : length ps ≡ c.nodes) where
  -- the world of a moment, with these lendings and images
  abbrev pub world_at : (ℕ → ℕ → Lending) → (ℕ → ℕ → List ℕ) → (d : Driven)
      → IsMoment o c limits ps few d → LentWorld
  world_at loans image d m = lent_world c loans image (along ps d.nodes) m.sent

  module _ (loans : ℕ → ℕ → Lending) (image : ℕ → ℕ → List ℕ) (d : Driven)
      (m : IsMoment o c limits ps few d) where
    entry_now : (i : ℕ) (e : Embedded) → slice_get d.nodes i ≡ Some e → (page : ℕ)
        → entries_in (world_at loans image d m).world i page
        ≡ entry_at (table_of (core_of e.site)) page
    entry_now i e at page =
        let p = program_at o c limits ps few d m i e at in
        entry_is (along ps d.nodes) m.sent i page (as_run p.0 [] e.site)
        (along_there ps d.nodes i p.0 e p.1 at)

    bytes_now : (i : ℕ) (e : Embedded) → slice_get d.nodes i ≡ Some e → (page : ℕ)
        → bytes_in (world_at loans image d m).world i page ≡ bytes_at e page
    bytes_now i e at page =
        let p = program_at o c limits ps few d m i e at in
        bytes_are (along ps d.nodes) m.sent i page (as_run p.0 [] e.site)
        (along_there ps d.nodes i p.0 e p.1 at)

    -- the world lends soundly, if its nodes do
    sound_by : ((j : ℕ) (e : Embedded) → slice_get d.nodes j ≡ Some e → (q : ℕ)
        → SufficesFor (entry_at (table_of (core_of e.site)) q) (loans j q))
        → ((j : ℕ) → length d.nodes ≤ j → (q : ℕ) → loans j q ≡ Unlent)
        → LendsSoundly (world_at loans image d m)
    sound_by each beyond j q = elim (slice_get_cases d.nodes j).1 [
      | inl found ↦
          subst (λ e. SufficesFor e (loans j q)) (sym (entry_now j found.0 found.2 q))
          (each j found.0 found.2 q)
      | inr none ↦
          subst (SufficesFor (entries_in (world_at loans image d m).world j q))
          (sym (beyond j none.0 q)) tt
    ]

  -- node i lends, or takes back, by this call
  module _ (i : ℕ) (old new : Mapped) (call : IsCalled i old new)
      (m : IsMoment o c limits ps few old.driven) (next : IsMoment o c limits ps few new.driven)
      (loans : ℕ → ℕ → Lending) (image : ℕ → ℕ → List ℕ)
      (same : (j q : ℕ) → loans j q ≡ lent_in old j q)
      (shows : (j q : ℕ) → lent_in old j q ≢ Unlent → image j q ≡ old.image j q) where
    abbrev s : Embedded
    s = call.before

    abbrev t : Embedded
    t = call.after

    abbrev now : LentWorld
    now = world_at loans image new.driven next

    t_there : slice_get new.driven.nodes i ≡ Some t
    t_there = now_at old.driven.nodes new.driven.nodes i s t call.there call.nodes

    loan_at : (q : ℕ) → loans i q ≡ lending_of (lending_in s.lent q)
    loan_at q = same i q ∙ ap (λ o. lent_by o q) call.there

    -- with a site that stays
    module _ (site : t.site ≡ s.site) where
      had_here : (q : ℕ) → SufficesFor (entry_at (table_of (core_of t.site)) q) (loans i q)
      had_here q =
          subst (SufficesFor (entry_at (table_of (core_of t.site)) q)) (sym (loan_at q))
          (subst (λ (x : SiteView). SufficesFor (entry_at (table_of (core_of x)) q)
          (lending_of (lending_in s.lent q))) (sym site)
          (had_suffices (entry_at (table_of (core_of s.site)) q) (lending_in s.lent q)
          ((m.sound i s call.there).had q)))

      sound_now : LendsSoundly now
      sound_now =
          sound_by loans image new.driven next
          (λ j e at q. ⊎_elim
          (λ here. subst (λ k. SufficesFor (entry_at (table_of (core_of e.site)) q) (loans k q)) (sym here.0)
          (subst (λ (x : Embedded). SufficesFor (entry_at (table_of (core_of x.site)) q) (loans i q))
          (sym here.1) (had_here q)))
          (λ before. subst (SufficesFor (entry_at (table_of (core_of e.site)) q))
          (sym (same j q ∙ ap (λ o. lent_by o q) before))
          (had_suffices (entry_at (table_of (core_of e.site)) q) (lending_in e.lent q)
          ((m.sound j e before).had q)))
          (set-cases old.driven.nodes i j t e (ap (λ ns. slice_get ns j) (sym call.nodes) ∙ at)))
          (λ j past q. same j q
          ∙ ap (λ o. lent_by o q)
          (slice_get_past old.driven.nodes j
          (let one = m.each in let two = next.each in omega (arith, past, one, two))))

      bytes_here : (page : ℕ) → bytes_in now.world i page ≡ bytes_at s page
      bytes_here page =
          bytes_now loans image new.driven next i t t_there page
          ∙ ap (λ (x : SiteView). page_at (table_of (core_of x)) page) site

    -- what is lent of one page changes
    module _ (page : ℕ) (to : Mark) (is : t ≡ with_lending s page to) (within : page < length s.lent)
        (images : LeavesImages old new) where
      abbrev site : t.site ≡ s.site
      site = ap (λ (e : Embedded). e.site) is

      to_now : lent_in new i page ≡ lending_of to
      to_now =
          lent_now old.driven.nodes new.driven.nodes i s t call.there call.nodes page to within
          (ap (λ (e : Embedded). e.lent) is)

      others_now : (j q : ℕ) → IsApart i page j q
          → lent_in new j q ≡ lent_in old j q
      others_now j q apart =
          lent_apart old.driven.nodes new.driven.nodes i s t call.there call.nodes page to within
          (ap (λ (e : Embedded). e.lent) is) j q apart

      was_lent : lent_in old i page ≡ lending_of (lending_in s.lent page)
      was_lent = ap (λ o. lent_by o page) call.there

      module _ (number : ℕ) (may : MayLend s page to)
          (shown : lending_at s page ≡ mark.Unlent → lending_at t page ≢ mark.Unlent
          → new.image i page ≡ bytes_at s page) where
        abbrev lent_image : ℕ → ℕ → List ℕ
        lent_image = with_image image i page (new.image i page)

        abbrev then : LentWorld
        then = world_at (lent_in new) lent_image new.driven next

        config_here : s.site.config ≡ c
        config_here = (m.real i s call.there).config

        to_lent : lending_of to ≢ Unlent
        to_lent = more_lent to (lending_at s page) may.can.more

        lent_mark : lending_at t page ≢ mark.Unlent
        lent_mark none = to_lent (sym to_now ∙ ap (λ o. lent_by o page) t_there ∙ ap lending_of none)

        pub lends_page : LendsPage c i page (lending_of to) now then
        lends_page = record {
          heap = let above = may.can.above in omega (arith, above);
          inside = subst (λ (k : Config). page < k.pages) config_here may.can.inside;
          sound = sound_now site;
          lends = to_lent;
          suffices = subst (λ e. SufficesFor e (lending_of to))
              (sym (entry_now loans image new.driven next i t t_there page
              ∙ ap (λ (x : SiteView). entry_at (table_of (core_of x)) page) site))
              (had_suffices (entry_at (table_of (core_of s.site)) page) to may.had);
          less = λ e. more_reads to (lending_at s page) may.can.more
              (mark_write (lending_in s.lent page) (sym (loan_at page) ∙ e));
          here = λ none. image_here image i page (new.image i page)
              ∙ shown (mark_unlent (lending_in s.lent page) (sym (loan_at page) ∙ none)) lent_mark
              ∙ sym (bytes_here site page);
          stays = λ some. image_here image i page (new.image i page)
              ∙ images i page (λ e. some (same i page ∙ e))
              ∙ sym (shows i page (λ e. some (same i page ∙ e)));
          others = λ j q apart. image_apart image i page (new.image i page) j q apart;
          changes = record {
            here = to_now;
            others = λ j q apart. others_now j q apart ∙ sym (same j q);
            world = refl;
          };
        }

        pub lent_shows : (j q : ℕ) → lent_in new j q ≢ Unlent → lent_image j q ≡ new.image j q
        lent_shows j q some = elim (apart_or i page j q) [
          | inl here ↦
              ap (λ k. lent_image k q) here.0 ∙ ap (lent_image i) here.1
              ∙ image_here image i page (new.image i page)
              ∙ ap (new.image i) (sym here.1) ∙ ap (λ k. new.image k q) (sym here.0)
          | inr apart ↦
              let before : lent_in old j q ≢ Unlent = λ e. some (others_now j q apart ∙ e) in
              image_apart image i page (new.image i page) j q apart
              ∙ shows j q before ∙ sym (images j q before)
        ]

      module _ (more : is_more (lending_at s page) to ≡ true)
          (stored : lending_at s page ≡ mark.ToWrite → lending_at t page ≢ mark.ToWrite
          → bytes_at s page ≡ old.image i page) where
        abbrev back : LentWorld
        back = world_at (lent_in new) image new.driven next

        not_written : to ≢ mark.ToWrite
        not_written = more_reads (lending_at s page) to more

        mark_now : lending_of (lending_at t page) ≡ lending_of to
        mark_now = ap (λ o. lent_by o page) (sym t_there) ∙ to_now

        was_some : lent_in old i page ≢ Unlent
        was_some none = more_lent (lending_at s page) to more (sym was_lent ∙ none)

        pub gives_back : GivesBackPage c i page (lending_of to) now back
        gives_back = record {
          sound = sound_now site;
          had = λ none. was_some (sym (same i page) ∙ none);
          less = lending_write to not_written;
          stored = λ writes.
              bytes_here site page
              ∙ stored (mark_write (lending_in s.lent page) (sym (loan_at page) ∙ writes))
              (λ e. lending_write to not_written (sym mark_now ∙ ap lending_of e))
              ∙ sym (shows i page was_some);
          image = λ j q. refl;
          changes = record {
            here = to_now;
            others = λ j q apart. others_now j q apart ∙ sym (same j q);
            world = refl;
          };
        }

        pub back_shows : (j q : ℕ) → lent_in new j q ≢ Unlent → image j q ≡ new.image j q
        back_shows j q some = elim (apart_or i page j q) [
          | inl here ↦
              let before : lent_in old j q ≢ Unlent =
              λ e. was_some (ap (λ k. lent_in old k page) (sym here.0) ∙ ap (lent_in old j) (sym here.1) ∙ e) in
              shows j q before ∙ sym (images j q before)
          | inr apart ↦
              let before : lent_in old j q ≢ Unlent = λ e. some (others_now j q apart ∙ e) in
              shows j q before ∙ sym (images j q before)
        ]

  -- a program accesses an image, and the nodes stay
  module _ (a : Access) (old new : Mapped) (point : IsPointed c a old new)
      (m : IsMoment o c limits ps few old.driven) (loans : ℕ → ℕ → Lending) (image : ℕ → ℕ → List ℕ)
      (same : (j q : ℕ) → loans j q ≡ lent_in old j q)
      (shows : (j q : ℕ) → lent_in old j q ≢ Unlent → image j q ≡ old.image j q) where
    abbrev pub pointed_image : ℕ → ℕ → List ℕ
    pointed_image = with_image image a.node a.page (new.image a.node a.page)

    pub touches : Touches c a (world_at loans image old.driven m)
        (world_at loans pointed_image old.driven m)
    touches = record {
      inside = point.inside;
      has = λ none. point.has (sym (same a.node a.page) ∙ none);
      may = λ writes. same a.node a.page ∙ point.may writes;
      does = subst (λ x. Does a.offset a.deed (image a.node a.page) x)
          (sym (image_here image a.node a.page (new.image a.node a.page)))
          (subst (λ x. Does a.offset a.deed x (new.image a.node a.page))
          (sym (shows a.node a.page point.has)) point.does);
      others = λ j q apart. image_apart image a.node a.page (new.image a.node a.page) j q apart;
      lent = λ j q. refl;
      world = refl;
    }

    pub pointed_shows : (j q : ℕ) → lent_in old j q ≢ Unlent → pointed_image j q ≡ new.image j q
    pointed_shows j q some = elim (apart_or a.node a.page j q) [
      | inl here ↦
          ap (λ k. pointed_image k q) here.0 ∙ ap (pointed_image a.node) here.1
          ∙ image_here image a.node a.page (new.image a.node a.page)
          ∙ ap (new.image a.node) (sym here.1) ∙ ap (λ k. new.image k q) (sym here.0)
      | inr apart ↦
          image_apart image a.node a.page (new.image a.node a.page) j q apart
          ∙ shows j q some ∙ sym (point.images j q apart some)
    ]
