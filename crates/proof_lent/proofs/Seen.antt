-- The memory that programs see: that of the calls, but where a page is lent to write, the image.
use Rattle.std.proofs.Common.{◌≡◌, ◌≢◌, ◌⊎◌, inl, inr, ◌<◌, ◌≤◌, ◌+◌, ℕ, Bool, true, false, List, [], ◌∷◌, ◌++◌, ◌*◌, ◌-◌, length, take, drop, refl, ap, sym, subst, ◌∙◌}
use Rattle.std.proofs.lemmas.Bool.{cases_eq}
use Rattle.ivy_model.specs.declared.Act.{Act}
use Rattle.ivy_model.specs.declared.Config.{Config}
use Rattle.ivy_model.specs.declared.Record.{Record}
use Rattle.ivy_model.specs.stated.Config.{IsConfig}
use Rattle.ivy_model.specs.stated.Memory.{Memory, first}
use Rattle.ivy_model.specs.stated.Serves.{overwrite}
use Rattle.ivy_model.specs.Memory.{IsSized, flat_page}
use Rattle.ivy_model.proofs.Sizes.{first_sized, serves_sized}
use Rattle.proof_lent.specs.Lent.{Lending, Unlent, ToRead, ToWrite, Deed, Loads, Stores, Exchanges, Access, writes, IsWithin, StandAt, Does, Accesses, Made, Called, Kept, Pointed, MakesAll, State, Event, Make, Lend, GiveBack, IsWordOf, IsApart, Calls, Keeps, Points, IsLent, IsGivenBack, Happens, HappenAll, made_by, made_in, IsFirst, Sees, MappedAccessesAreFlat}
use Rattle.proof_lent.proofs.Pieces.{with_bytes, piece-read, piece-written, written-long, written-elsewhere}
use Rattle.proof_lent.proofs.Serving.{Follows, follows, Leaves, word_inside, word_leaves, load_leaves, is_load}

-- programs see this memory, which is of its size and has the counts and blocks of that of the calls;
-- only pages of the heap are lent
pub record Stands (c : Config) (s : State) (seen : Memory) : Type 0 where
  pub sees : Sees c s seen
  pub heap : (i p : ℕ) → s.lent i p ≢ Unlent → (1 ≤ p) × (p < c.pages)
  pub sized : IsSized c s.memory
  pub seen_sized : IsSized c seen
  pub counts : seen.counts ≡ s.memory.counts
  pub blocks : seen.blocks ≡ s.memory.blocks

-- the memory after an event, and that it is what the event makes of it
pub record Goes (c : Config) (e : Event) (seen : Memory) (new : State) : Type 0 where
  pub after : Memory
  pub makes : MakesAll c seen (made_by e) after
  pub stands : Stands c new after

unlent_writes : Unlent ≡ ToWrite → ⊥
unlent_writes e = cc

reads_writes : ToRead ≡ ToWrite → ⊥
reads_writes e = cc

-- which it is
is_written : (l : Lending) → (l ≡ ToWrite) ⊎ (l ≢ ToWrite)
is_written Unlent = inr unlent_writes
is_written ToRead = inr reads_writes
is_written ToWrite = inl refl

is_unlent : (l : Lending) → (l ≡ Unlent) ⊎ (l ≢ Unlent)
is_unlent Unlent = inl refl
is_unlent ToRead = inr (λ e. absurd cc)
is_unlent ToWrite = inr (λ e. absurd cc)

write_has : (l : Lending) → l ≡ ToWrite → l ≢ Unlent
write_has l e n = unlent_writes (sym n ∙ e)

same_or_apart : (i p j q : ℕ) → ((j ≡ i) × (q ≡ p)) ⊎ IsApart i p j q
same_or_apart i p j q = elim (cases_eq j i) [
  | inr a ↦ inr (inl a)
  | inl a ↦ elim (cases_eq q p) [ inl b ↦ inl (a, b) | inr b ↦ inr (inr b) ]
]

-- what stands at one place of a table of two numbers
at_same : {X : Type 0} (f : ℕ → ℕ → X) (i p j q : ℕ) → j ≡ i → q ≡ p → f j q ≡ f i p
at_same f i p j q a b = ap (λ k. f k q) a ∙ ap (f i) b

module _ (c : Config) (config : IsConfig c) where
  call_goes : (r : Record) (old new : State) (seen : Memory) → Calls c r old new → Stands c old seen
      → Goes c (Make (Called r)) seen new
  call_goes r old new seen k s =
      let same : (p : ℕ) (a : Act) → IsWordOf c r.call p a → flat_page c old.memory p ≡ flat_page c seen p
      = λ p a of. word_page p a of in
      let f : Follows c old.memory new.memory seen r =
      follows c config old.memory new.memory seen s.sized s.seen_sized s.counts s.blocks r k.makes
      same in
      record {
        after = f.after;
        makes = (f.after, f.makes, refl);
        stands = record {
          sees = record {
            lent = λ i p has.
                let had : old.lent i p ≢ Unlent = λ e. has (k.same.lent i p ∙ e) in
                let at = s.heap i p had in
                k.same.image i p ∙ s.sees.lent i p had
                ∙ sym (f.stays p at.0 at.1 (λ a of other. had (k.none_has p a of other i)));
            unlent = λ p from to none.
                f.goes p from to
                (s.sees.unlent p from to (λ i e. none i (k.same.lent i p ∙ e)));
            alone = λ i j p w ne.
                k.same.lent j p ∙ s.sees.alone i j p (sym (k.same.lent i p) ∙ w) ne;
          };
          heap = λ i p has. s.heap i p (λ e. has (k.same.lent i p ∙ e));
          sized = serves_sized c old.memory new.memory r.call r.reply config k.makes.width s.sized
              k.makes.served;
          seen_sized = serves_sized c seen f.after r.call r.reply config f.makes.width s.seen_sized
              f.makes.served;
          counts = f.counts;
          blocks = f.blocks;
        };
      }
    where
      word_page : (p : ℕ) (a : Act) → IsWordOf c r.call p a
          → flat_page c old.memory p ≡ flat_page c seen p
      word_page p a of =
          let at = word_inside c config r k.makes.width p a of in
          s.sees.unlent p at.0 at.1 (k.none_writes p a of)

  keep_goes : (r : Record) (old new : State) (seen : Memory) → Keeps c r old new → Stands c old seen
      → Goes c (Make (Kept r)) seen new
  keep_goes r old new seen k s =
      let left : Leaves c old.memory new.memory k.page =
      word_leaves c config old.memory new.memory s.sized r k.makes k.page k.access k.word in
      record {
        after = seen;
        makes = (seen, refl, refl);
        stands = record {
          sees = record {
            lent = λ i p has.
                k.same.image i p ∙ s.sees.lent i p (λ e. has (k.same.lent i p ∙ e));
            unlent = λ p from to none.
                kept p to none
                ∙ s.sees.unlent p from to (λ i e. none i (k.same.lent i p ∙ e));
            alone = λ i j p w ne.
                k.same.lent j p ∙ s.sees.alone i j p (sym (k.same.lent i p) ∙ w) ne;
          };
          heap = λ i p has. s.heap i p (λ e. has (k.same.lent i p ∙ e));
          sized = serves_sized c old.memory new.memory r.call r.reply config k.makes.width s.sized
              k.makes.served;
          seen_sized = s.seen_sized;
          counts = s.counts ∙ sym left.counts;
          blocks = s.blocks ∙ sym left.blocks;
        };
      }
    where
      kept : (p : ℕ) → p < c.pages → ((i : ℕ) → new.lent i p ≢ ToWrite)
          → flat_page c new.memory p ≡ flat_page c old.memory p
      kept p to none = elim (is_load k.access) [
        | inl load ↦
            ap (λ m. flat_page c m p)
            (load_leaves c config old.memory new.memory s.sized r k.makes k.page k.access k.word load)
        | inr other ↦ elim (cases_eq p k.page) [
          | inl here ↦
              absurd (none r.node
              (k.same.lent r.node p ∙ ap (old.lent r.node) here ∙ k.may other))
          | inr ne ↦
              (word_leaves c config old.memory new.memory s.sized r k.makes k.page k.access k.word).others
              p to ne
        ]
      ]

  -- what an access comes to on the memory that programs see
  record Accessed (seen : Memory) (a : Access) (image : List ℕ) : Type 0 where
    after : Memory
    makes : Accesses c seen a after
    sized : IsSized c after
    here : image ≡ flat_page c after a.page
    others : (q : ℕ) → 1 ≤ q → q < c.pages → q ≢ a.page
        → flat_page c after q ≡ flat_page c seen q
    loads : writes a.deed ≡ false → after ≡ seen

  module _ (seen : Memory) (sized : IsSized c seen) (node page offset : ℕ) (from : 1 ≤ page)
      (to : page < c.pages) (old new : List ℕ) (was : old ≡ flat_page c seen page) where
    abbrev access : Deed → Access
    access d = record { node = node; page = page; offset = offset; deed = d }

    stood : (given : List ℕ) → offset + length given ≤ c.page_size → StandAt offset given old
        → StandAt (page * c.page_size + offset - c.page_size) given seen.bytes
    stood given within stands =
        sym (piece-read c seen sized.bytes page from to offset (length given) within)
        ∙ ap (λ bs. take (length given) (drop offset bs)) (sym was) ∙ stands

    put_sized : (bytes : List ℕ) → offset + length bytes ≤ c.page_size
        → IsSized c
        (with_bytes seen (overwrite seen.bytes (page * c.page_size + offset - c.page_size) bytes))
    put_sized bytes within = record {
      bytes = written-long c seen sized.bytes page from to offset bytes within;
      counts = sized.counts;
      words = sized.words;
    }

    put_here : (bytes : List ℕ) → offset + length bytes ≤ c.page_size → new ≡ overwrite old offset bytes
        → new
        ≡ flat_page c
        (with_bytes seen (overwrite seen.bytes (page * c.page_size + offset - c.page_size) bytes)) page
    put_here bytes within is =
        is ∙ ap (λ bs. overwrite bs offset bytes) was
        ∙ sym (piece-written c seen sized.bytes page from to offset bytes within)

    accessed : (d : Deed) → IsWithin c.page_size offset d → Does offset d old new
        → Accessed seen (access d) new
    accessed (Loads given) within does = record {
      after = seen;
      makes = record {
        inside = record { heap = from; page = to; within = within };
        does = (stood given within does.0, refl);
        counts = refl;
        blocks = refl;
      };
      sized = sized;
      here = does.1 ∙ was;
      others = λ q first last ne. refl;
      loads = λ no. refl;
    }
    accessed (Stores bytes) within does = record {
      after = with_bytes seen (overwrite seen.bytes (page * c.page_size + offset - c.page_size) bytes);
      makes = record {
        inside = record { heap = from; page = to; within = within };
        does = refl;
        counts = refl;
        blocks = refl;
      };
      sized = put_sized bytes within;
      here = put_here bytes within does;
      others = written-elsewhere c seen sized.bytes page from to offset bytes within;
      loads = λ no. absurd (let f : true ≡ false = no in cc);
    }
    accessed (Exchanges given bytes) within does = record {
      after = with_bytes seen (overwrite seen.bytes (page * c.page_size + offset - c.page_size) bytes);
      makes = record {
        inside = record { heap = from; page = to; within = within };
        does = (stood given within.0 does.0, refl);
        counts = refl;
        blocks = refl;
      };
      sized = put_sized bytes within.1;
      here = put_here bytes within.1 does.1;
      others = written-elsewhere c seen sized.bytes page from to offset bytes within.1;
      loads = λ no. absurd (let f : true ≡ false = no in cc);
    }

  pointer_goes : (a : Access) (old new : State) (seen : Memory) → Points c a old new → Stands c old seen
      → Goes c (Make (Pointed a)) seen new
  pointer_goes a old new seen k s =
      let i : ℕ = a.node in
      let at : ℕ = a.page in
      let was : old.image i at ≡ flat_page c seen at = s.sees.lent i at k.has in
      let g : Accessed seen a (new.image i at) =
      accessed seen s.seen_sized i at a.offset k.inside.heap k.inside.page (old.image i at)
      (new.image i at) was a.deed k.inside.within k.does in
      let stays : (q : ℕ) → 1 ≤ q → q < c.pages → (q ≡ at → writes a.deed ≡ true → ⊥)
      → flat_page c seen q ≡ flat_page c g.after q =
      λ q from to none. elim (cases_eq q at) [
        | inr ne ↦ sym (g.others q from to ne)
        | inl here ↦ either (writes a.deed) refl g q (none here)
      ] in
      record {
        after = g.after;
        makes = (g.after, g.makes, refl);
        stands = record {
          sees = record {
            lent = λ j q has.
                let had : old.lent j q ≢ Unlent = λ e. has (k.lent j q ∙ e) in
                let inside = s.heap j q had in
                elim (same_or_apart i at j q) [
                  | inl same ↦
                      at_same new.image i at j q same.0 same.1 ∙ g.here
                      ∙ ap (flat_page c g.after) (sym same.1)
                  | inr apart ↦
                      k.others j q apart ∙ s.sees.lent j q had
                      ∙ stays q inside.0 inside.1 (λ same w. elim apart [
                        | inl ne ↦ had (ap (old.lent j) same ∙ s.sees.alone i j at (k.may w) ne)
                        | inr ne ↦ ne same
                      ])
                ];
            unlent = λ q from to none.
                ap (λ m. flat_page c m q) k.memory
                ∙ s.sees.unlent q from to (λ j e. none j (k.lent j q ∙ e))
                ∙ stays q from to (λ same w. none i (k.lent i q ∙ ap (old.lent i) same ∙ k.may w));
            alone = λ j l q w ne. k.lent l q ∙ s.sees.alone j l q (sym (k.lent j q) ∙ w) ne;
          };
          heap = λ j q has. s.heap j q (λ e. has (k.lent j q ∙ e));
          sized = subst (IsSized c) (sym k.memory) s.sized;
          seen_sized = g.sized;
          counts = g.makes.counts ∙ s.counts ∙ ap (λ (m : Memory). m.counts) (sym k.memory);
          blocks = g.makes.blocks ∙ s.blocks ∙ ap (λ (m : Memory). m.blocks) (sym k.memory);
        };
      }
    where
      either : (b : Bool) → writes a.deed ≡ b → (g : Accessed seen a (new.image a.node a.page)) (q : ℕ)
          → (writes a.deed ≡ true → ⊥) → flat_page c seen q ≡ flat_page c g.after q
      either true is g q none = absurd (none is)
      either false is g q none = ap (λ m. flat_page c m q) (sym (g.loads is))

  lend_goes : (i p : ℕ) (to : Lending) (old new : State) (seen : Memory) → IsLent c i p to old new
      → Stands c old seen → Goes c (Lend i p to) seen new
  lend_goes i p to old new seen k s =
      let before : (j q : ℕ) → new.lent j q ≢ ToWrite → old.lent j q ≢ ToWrite =
      λ j q none e. elim (same_or_apart i p j q) [
        | inl same ↦ k.none_writes j (sym (ap (old.lent j) same.1) ∙ e)
        | inr apart ↦ none (k.lends.others j q apart ∙ e)
      ] in record {
        after = seen;
        makes = refl;
        stands = record {
          sees = record {
            lent = λ j q has. elim (same_or_apart i p j q) [
              | inl same ↦ at_same new.image i p j q same.0 same.1 ∙ shown ∙ ap (flat_page c seen) (sym same.1)
              | inr apart ↦
                  k.others j q apart ∙ s.sees.lent j q (λ e. has (k.lends.others j q apart ∙ e))
            ];
            unlent = λ q from last none.
                ap (λ m. flat_page c m q) k.memory
                ∙ s.sees.unlent q from last (λ j. before j q (none j));
            alone = λ j l q w ne. elim (same_or_apart i p j q) [
              | inl same ↦
                  let is : to ≡ ToWrite =
                  sym k.lends.here ∙ sym (at_same new.lent i p j q same.0 same.1) ∙ w in
                  let apart : l ≢ i = λ e. ne (e ∙ sym same.0) in
                  k.lends.others l q (inl apart) ∙ ap (old.lent l) same.1 ∙ k.alone is l apart
              | inr apart ↦
                  let was : old.lent j q ≡ ToWrite = sym (k.lends.others j q apart) ∙ w in
                  elim (cases_eq q p) [
                    | inl same ↦ absurd (k.none_writes j (sym (ap (old.lent j) same) ∙ was))
                    | inr other ↦
                        k.lends.others l q (inr other) ∙ s.sees.alone j l q was ne
                  ]
            ];
          };
          heap = λ j q has. elim (same_or_apart i p j q) [
            | inl same ↦
                subst (λ z. (1 ≤ z) × (z < c.pages)) (sym same.1) (k.heap, k.inside)
            | inr apart ↦ s.heap j q (λ e. has (k.lends.others j q apart ∙ e))
          ];
          sized = subst (IsSized c) (sym k.memory) s.sized;
          seen_sized = s.seen_sized;
          counts = s.counts ∙ ap (λ (m : Memory). m.counts) (sym k.memory);
          blocks = s.blocks ∙ ap (λ (m : Memory). m.blocks) (sym k.memory);
        };
      }
    where
      shown : new.image i p ≡ flat_page c seen p
      shown = elim (is_unlent (old.lent i p)) [
        | inl none ↦ k.here none ∙ s.sees.unlent p k.heap k.inside k.none_writes
        | inr has ↦ k.stays has ∙ s.sees.lent i p has
      ]

  back_goes : (i p : ℕ) (on : Lending) (old new : State) (seen : Memory)
      → IsGivenBack c i p on old new → Stands c old seen → Goes c (GiveBack i p on) seen new
  back_goes i p on old new seen k s =
      let before : (j q : ℕ) → IsApart i p j q → new.lent j q ≢ ToWrite → old.lent j q ≢ ToWrite =
      λ j q apart none e. none (k.lends.others j q apart ∙ e) in
      let had : (j q : ℕ) → new.lent j q ≢ Unlent → old.lent j q ≢ Unlent =
      λ j q has e. elim (same_or_apart i p j q) [
        | inl same ↦ k.had (sym (at_same old.lent i p j q same.0 same.1) ∙ e)
        | inr apart ↦ has (k.lends.others j q apart ∙ e)
      ] in record {
        after = seen;
        makes = refl;
        stands = record {
          sees = record {
            lent = λ j q has. k.image j q ∙ s.sees.lent j q (had j q has);
            unlent = λ q from to none.
                ap (λ m. flat_page c m q) k.memory
                ∙ elim (cases_eq q p) [
                  | inr ne ↦ s.sees.unlent q from to (λ j. before j q (inr ne) (none j))
                  | inl same ↦
                      ap (flat_page c old.memory) same
                      ∙ elim (is_written (old.lent i p)) [
                        | inl w ↦ sym (k.stored w) ∙ s.sees.lent i p k.had
                        | inr w ↦
                            s.sees.unlent p (subst (λ z. 1 ≤ z) same from)
                            (subst (λ z. z < c.pages) same to) (λ j. elim (cases_eq j i) [
                              | inl here ↦ λ e. w (sym (ap (λ z. old.lent z p) here) ∙ e)
                              | inr ne ↦
                                  before j p (inl ne) (λ e. none j (ap (new.lent j) same ∙ e))
                            ])
                      ]
                      ∙ ap (flat_page c seen) (sym same)
                ];
            alone = λ j l q w ne. elim (same_or_apart i p j q) [
              | inl same ↦
                  absurd (k.less
                  (sym k.lends.here ∙ sym (at_same new.lent i p j q same.0 same.1) ∙ w))
              | inr apart ↦
                  let none : old.lent l q ≡ Unlent =
                  s.sees.alone j l q (sym (k.lends.others j q apart) ∙ w) ne in
                  elim (same_or_apart i p l q) [
                    | inl same ↦
                        absurd (k.had (sym (at_same old.lent i p l q same.0 same.1) ∙ none))
                    | inr other ↦ k.lends.others l q other ∙ none
                  ]
            ];
          };
          heap = λ j q has. s.heap j q (had j q has);
          sized = subst (IsSized c) (sym k.memory) s.sized;
          seen_sized = s.seen_sized;
          counts = s.counts ∙ ap (λ (m : Memory). m.counts) (sym k.memory);
          blocks = s.blocks ∙ ap (λ (m : Memory). m.blocks) (sym k.memory);
        };
      }

  pub goes : (e : Event) (old new : State) (seen : Memory) → Happens c e old new → Stands c old seen
      → Goes c e seen new
  goes (Make (Called r)) old new seen h s = call_goes r old new seen h s
  goes (Make (Kept r)) old new seen h s = keep_goes r old new seen h s
  goes (Make (Pointed a)) old new seen h s = pointer_goes a old new seen h s
  goes (Lend i p to) old new seen h s = lend_goes i p to old new seen h s
  goes (GiveBack i p on) old new seen h s = back_goes i p on old new seen h s

  -- one after another
  pub makes_append : (xs ys : List Made) (a b d : Memory) → MakesAll c a xs b → MakesAll c b ys d
      → MakesAll c a (xs ++ ys) d
  makes_append [] ys a b d first rest = subst (λ m. MakesAll c m ys d) first rest
  makes_append (x ∷ xs) ys a b d first rest =
      (first.0, first.1, makes_append xs ys first.0 b d first.2 rest)

  all_go : (es : List Event) (old end : State) (seen : Memory) → HappenAll c old es end
      → Stands c old seen → (last : Memory) × MakesAll c seen (made_in es) last × Stands c end last
  all_go [] old end seen same s = (seen, refl, subst (λ x. Stands c x seen) (sym same) s)
  all_go (e ∷ es) old end seen happen s =
      let one : Goes c e seen happen.0 = goes e old happen.0 seen happen.1 s in
      let rest = all_go es happen.0 end one.after happen.2 one.stands in
      (rest.0, makes_append (made_by e) (made_in es) seen one.after rest.0 one.makes rest.1, rest.2)

  pub first_stands : (s : State) → IsFirst c s → Stands c s (first c)
  first_stands s is = record {
    sees = record {
      lent = λ i p has. absurd (has (is.unlent i p));
      unlent = λ p from to none. ap (λ m. flat_page c m p) is.memory;
      alone = λ i j p w ne. is.unlent j p;
    };
    heap = λ i p has. absurd (has (is.unlent i p));
    sized = subst (IsSized c) (sym is.memory) (first_sized c);
    seen_sized = first_sized c;
    counts = ap (λ (m : Memory). m.counts) (sym is.memory);
    blocks = ap (λ (m : Memory). m.blocks) (sym is.memory);
  }

pub mapped_accesses_are_flat : MappedAccessesAreFlat
mapped_accesses_are_flat c config start end es is happen =
    let all = all_go c config es start end (first c) happen (first_stands c config start is) in
    (all.0, all.1, all.2.sees)
