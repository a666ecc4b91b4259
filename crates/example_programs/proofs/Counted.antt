-- No 1 is lost.
use Rattle.std.proofs.Common.{◌≡◌, ℕ, zero, suc, ◌+◌, ◌*◌, ◌%◌, ◌^◌, ◌<◌, inl, inr, false, cond}
use Rattle.std.proofs.Common.{List, [], ◌∷◌, ◌++◌, length, Some, refl, sym, ap, ap₂, subst, ◌∙◌, arith}
use Rattle.std.proofs.Common.{append_assoc, mod-eq_of_lt}
use Rattle.std.specs.Prelude.{slice_get}
use Rattle.std.specs.List.{AllByRecursion as Each, slice_index_or}
use Rattle.std.proofs.lemmas.Bool.{both_ways, cases_eq}
use Rattle.ivy_model.specs.declared.config.Config.{Config}
use Rattle.ivy_model.specs.declared.call.Record.{Record}
use Rattle.ivy_model.specs.declared.call.Reply.TheVariants.{Value}
use Rattle.ivy_model.specs.stated.Memory.{first}
use Rattle.ivy_calls.specs.declared.answer.Answer.{Answer}
use Rattle.ivy_calls.specs.Answers.{by, answer, answers, answers_of}
use Rattle.ivy_calls.specs.Shared.{AreShared}
use Rattle.ivy_calls.proofs.Answers.{answers_of-at, answers_of-push_own, answers_of-push_other}
use Rattle.ivy_sync.specs.meeting.Barriers.{CrossesAt, IsCutAt}
use Rattle.ivy_sync.specs.Doing.{arrives, loads, stores}
use Rattle.ivy_sync.specs.excluding.Registers.{ReadsTheLast}
use Rattle.ivy_sync.specs.meeting.Sums.{sum_up_to}
use Rattle.ivy_sync.specs.HeapWords.{word, word_after, last, is_access_in, IsWhole, LeadsThrough, Reads}
use Rattle.ivy_sync.proofs.answers.Cuts.{all_parts, nodes_there, part_cut}
use Rattle.ivy_sync.proofs.answers.First.{first_count, first_run, first_word}
use Rattle.ivy_sync.proofs.answers.Lists.{All-both, one_more}
use Rattle.ivy_sync.proofs.excluding.Locked.{in_own}
use Rattle.ivy_sync.proofs.meeting.Phases.{settled}
use Rattle.ivy_sync.proofs.excluding.Registers.{no_write, reads_all}
use Rattle.ivy_sync.proofs.meeting.Separates.{barrier-separates}
use Rattle.ivy_sync.proofs.answers.AnswerTotals.{parts_tally, sum_up_to-same, tally, tally-append}
use Rattle.ivy_sync.proofs.answers.HeapWords.{whole_quiet, word_last, written_quiet}
use Rattle.example_programs.specs.declared.peterson.TwoCount.{TwoCount}
use Rattle.example_programs.specs.Peterson.{HasCounted, IsCountPlace, IsInside, NoneIsLost}
use Rattle.example_programs.proofs.Accessing.{Accesses, AtEach, LoadsInside, StoresInside, adds}
use Rattle.example_programs.proofs.Accessing.{at_both, at_one, rounds_add, rounds_alone, rounds_at}
use Rattle.example_programs.proofs.Accessing.{rounds_whole, stays_inside}
use Rattle.example_programs.proofs.Excluding.{no-two_inside, there_in, value_is}
use Rattle.example_programs.proofs.Keeping.{apart}

-- of two lists that are the same the last items are
same_end : {A : Type 0} (xs ys : List A) (x y : A) → xs ++ x ∷ [] ≡ ys ++ y ∷ [] → x ≡ y
same_end [] [] x y e = cc
same_end [] (z ∷ []) x y e = absurd (cc)
same_end [] (z ∷ w ∷ ys) x y e = absurd (cc)
same_end (z ∷ []) [] x y e = absurd (cc)
same_end (z ∷ w ∷ xs) [] x y e = absurd (cc)
same_end (z ∷ xs) (w ∷ ys) x y e =
    let tail : xs ++ x ∷ [] ≡ ys ++ y ∷ [] = cc in same_end xs ys x y tail

item_at : (xs : List ℕ) (k d : ℕ) → k < length xs → slice_get xs k ≡ Some (slice_index_or xs k d)
item_at [] k d h = absurd (omega (arith, h))
item_at (x ∷ xs) zero d h = refl
item_at (x ∷ xs) (suc k) d h = item_at xs k d (omega (arith, h))

all_alike : (x n : ℕ) → sum_up_to (λ _. x) n ≡ n * x
all_alike x zero = omega arith
all_alike x (suc n) =
    let e = all_alike x n in
    let more : suc n * x ≡ n * x + x = grind arith in omega (arith, e, more)

-- where a node has just loaded the sum it is what was stored last
abbrev Holds : ℕ → List Record → ℕ → Type 0
Holds s xs n =
    (j : ℕ) (zs : List Answer) (v : ℕ) → answers_of j xs ≡ zs ++ loads s v ∷ [] → v ≡ n

-- one record more: the sum is n and what it adds
record IsCounted (work : TwoCount) (xs : List Record) (r : Record) (n : ℕ) : Type 0 where
  next : ℕ
  made : word_after work.sum n r.call ≡ next
  adds_to : next ≡ n + adds work (answer r)
  holds : Holds work.sum (xs ++ r ∷ []) next

holds_next : (s : ℕ) (xs : List Record) (r : Record) (n : ℕ)
    → ((v : ℕ) → answer r ≡ loads s v → v ≡ n)
    → ((j : ℕ) → (r.node ≡ j → ⊥) → (zs : List Answer) (v : ℕ)
    → answers_of j xs ≡ zs ++ loads s v ∷ [] → v ≡ n)
    → Holds s (xs ++ r ∷ []) n
holds_next s xs r n own others j zs v e =
    elim (cases_eq r.node j) [
      | inl same ↦
          own v
          (same_end (answers_of j xs) zs (answer r) (loads s v)
          (sym (answers_of-push_own j xs r same) ∙ e))
      | inr ne ↦ others j ne zs v (sym (answers_of-push_other j xs r ne) ∙ e)
    ]

module _ (c : Config) (work : TwoCount) (order : List Record) (outs : List ℕ) (d : ℕ)
    (place : IsCountPlace c work) (shared : AreShared c (HasCounted work) order outs) where
  abbrev s : ℕ
  s = work.sum

  abbrev k : ℕ
  k = work.barrier.count

  abbrev out : ℕ → ℕ
  out i = slice_index_or outs i d

  counted : (i : ℕ) → i < c.nodes → HasCounted work i (answers_of i order) (out i)
  counted i l =
      let all = shared.all in
      shared.each i (out i) (item_at outs i d (omega (arith, l, all)))

  abbrev before : (i : ℕ) → i < c.nodes → List Answer
  before i l = (counted i l).rounds

  abbrev after : (i : ℕ) → i < c.nodes → List Answer
  after i l = loads s (out i) ∷ []

  least : 0 + c.nodes ≡ work.barrier.passed + work.barrier.nodes
  least = ap₂ (λ (x : ℕ) (y : ℕ). x + y) (sym place.first) (sym place.nodes)

  cross : (i : ℕ) (l : i < c.nodes)
      → CrossesAt k (0 + c.nodes) (before i l) (after i l) (answers_of i order)
  cross i l =
      let own = counted i l in
      subst (λ n. CrossesAt k n (before i l) (after i l) (answers_of i order)) (sym least)
      (record {
        found = own.found;
        whole = own.whole;
        alone =
            rounds_alone work i (apart c work i place.lock own.either) k work.times own.rounds
            own.are;
      })

  run : LeadsThrough c (first c) order shared.legal.0
  run = first_run c order shared.legal.0 shared.config shared.legal.1

  cut : IsCutAt c (first c) order shared.legal.0 k (0 + c.nodes) before after
  cut =
      barrier-separates c (first c) shared.legal.0 order k 0 before after shared.legal.1
      (first_count c k place.count) cross

  nodes : Each (λ (r : Record). r.node < c.nodes) cut.first
  nodes = nodes_there c (first c) cut.mid cut.first cut.leads

  at : (i : ℕ) (l : i < c.nodes) → AtEach (Accesses work i) [] (answers_of i cut.first)
  at i l =
      let own = counted i l in
      subst (AtEach (Accesses work i) []) (sym (cut.firsts i l))
      (at_both (Accesses work i) [] own.rounds (arrives k ∷ [])
      (rounds_at work i (apart c work i place.lock own.either) work.times own.rounds own.are)
      (inl refl, tt))

  -- at a record of the first part
  module _ (xs : List Record) (r : Record) (ys : List Record) (is : cut.first ≡ xs ++ r ∷ ys) where
    node_there : r.node < c.nodes
    node_there =
        there_in (λ (q : Record). q.node < c.nodes) xs r ys
        (subst (Each (λ (q : Record). q.node < c.nodes)) is nodes)

    access : Accesses work r.node (answers_of r.node xs) (answer r)
    access =
        at_one (Accesses work r.node) [] (answers_of r.node xs) (answer r) (answers_of r.node ys)
        (subst (AtEach (Accesses work r.node) [])
        (ap (answers_of r.node) is ∙ answers_of-at xs r ys) (at r.node node_there))

  -- who has just loaded the sum is inside
  by_access : (i : ℕ) (zs : List Answer) (v : ℕ) → Accesses work i zs (loads s v)
      → IsInside work.lock i (zs ++ loads s v ∷ [])
  by_access i zs v (inl none) =
      absurd (both_ways (is_access_in s (loads s v).call) none (in_own s))
  by_access i zs v (inr (inl w)) = stays_inside work.lock i zs s v w.inside
  by_access i zs v (inr (inr w)) =
      let call : (loads s v).call ≡ (stores s (w.sum + 1)).call = ap (λ (q : Answer). q.call) w.is in
      absurd (cc)

  has_loaded : (xs ys : List Record) → cut.first ≡ xs ++ ys → (j : ℕ) (zs : List Answer) (v : ℕ)
      → answers_of j xs ≡ zs ++ loads s v ∷ [] → IsInside work.lock j (answers_of j xs)
  has_loaded xs ys is j zs v e =
      let p = part_cut j xs zs (loads s v) [] e in
      let whole : cut.first ≡ p.front ++ by j (loads s v) ∷ (p.back ++ ys) =
      is ∙ ap (λ rs. rs ++ ys) p.whole ∙ append_assoc p.front (by j (loads s v) ∷ p.back) ys in
      subst (IsInside work.lock j) (sym e)
      (by_access j zs v
      (subst (λ l. Accesses work j l (loads s v)) p.fronts
      (access p.front (by j (loads s v)) (p.back ++ ys) whole)))

  module _ (xs : List Record) (r : Record) (ys : List Record) (n : ℕ)
      (is : cut.first ≡ xs ++ r ∷ ys) (holds : Holds s xs n)
      (reads : Reads s r.call → r.reply ≡ Value n) where
    -- no other node has just loaded it
    others_out : IsInside work.lock r.node (answers_of r.node xs) → (j : ℕ) → (r.node ≡ j → ⊥)
        → (zs : List Answer) (v : ℕ) → answers_of j xs ≡ zs ++ loads s v ∷ [] → ⊥
    others_out inside j ne zs v e =
        ne (no-two_inside c work order outs place.lock shared xs ((r ∷ ys) ++ cut.rest)
        (cut.whole ∙ ap (λ rs. rs ++ cut.rest) is ∙ append_assoc xs (r ∷ ys) cut.rest) r.node j
        inside (has_loaded xs (r ∷ ys) is j zs v e))

    count_other : is_access_in s r.call ≡ false → IsCounted work xs r n
    count_other none =
        let quiet = no_write s r.call none in
        let added : adds work (answer r) ≡ 0 = ap (λ b. cond b 1 0) quiet in
        record {
          next = n;
          made = written_quiet s n r.call quiet;
          adds_to = omega (arith, added);
          holds =
              holds_next s xs r n
              (λ v e. absurd (both_ways (is_access_in s r.call) none
              (ap (λ (q : Answer). is_access_in s q.call) e ∙ in_own s)))
              (λ j _ zs v e. holds j zs v e);
        }

    count_load : LoadsInside work r.node (answers_of r.node xs) (answer r) → IsCounted work xs r n
    count_load w =
        let found : w.sum ≡ n =
        value_is w.sum n (subst (λ (q : Answer). Reads s q.call → q.reply ≡ Value n) w.is reads
        (refl, refl, refl)) in
        let added : adds work (answer r) ≡ 0 = ap (adds work) w.is in
        record {
          next = n;
          made = ap (λ (q : Answer). word_after s n q.call) w.is;
          adds_to = omega (arith, added);
          holds =
              holds_next s xs r n
              (λ v e. value_is v w.sum (ap (λ (q : Answer). q.reply) (sym e ∙ w.is)) ∙ found)
              (λ j _ zs v e. holds j zs v e);
        }

    count_store : StoresInside work r.node (answers_of r.node xs) (answer r)
        → IsCounted work xs r n
    count_store w =
        let found : w.sum ≡ n = holds r.node w.earlier w.sum w.after in
        let added : adds work (answer r) ≡ 1 =
        ap (adds work) w.is ∙ ap (λ b. cond b 1 0) (in_own s) in
        record {
          next = n + 1;
          made =
              ap (λ (q : Answer). word_after s n q.call) w.is
              ∙ ap (λ b. cond b ((w.sum + 1) % 2 ^ 64) n) (in_own s) ∙ mod-eq_of_lt w.fits
              ∙ ap (λ x. x + 1) found;
          adds_to = omega (arith, added);
          holds =
              holds_next s xs r (n + 1)
              (λ v e. no_load v (sym w.is ∙ e))
              (λ j ne zs v e. absurd (others_out w.inside j ne zs v e));
        }
      where
        no_load : (v : ℕ) → stores s (w.sum + 1) ≡ loads s v → v ≡ n + 1
        no_load v e =
            let call : (stores s (w.sum + 1)).call ≡ (loads s v).call =
            ap (λ (q : Answer). q.call) e in
            absurd (cc)

    count : Accesses work r.node (answers_of r.node xs) (answer r) → IsCounted work xs r n
    count (inl none) = count_other none
    count (inr (inl w)) = count_load w
    count (inr (inr w)) = count_store w

  -- so each store adds 1
  total : (xs ys : List Record) (n : ℕ) → cut.first ≡ xs ++ ys → Holds s xs n
      → ReadsTheLast s n (answers ys)
      → last s n (answers ys) ≡ n + tally (adds work) (answers ys)
  total xs [] n is holds reads = omega arith
  total xs (r ∷ ys) n is holds reads =
      let w = count xs r ys n is holds reads.0 (access xs r ys is) in
      let rest =
      total (xs ++ r ∷ []) ys w.next (is ∙ one_more xs r ys) w.holds
      (subst (λ u. ReadsTheLast s u (answers ys)) w.made reads.1) in
      let more = w.adds_to in
      ap (λ u. last s u (answers ys)) w.made ∙ rest
      ∙ (let e : w.next + tally (adds work) (answers ys)
      ≡ n + (adds work (answer r) + tally (adds work) (answers ys)) = omega (arith, more) in e)

  whole : Each (λ (r : Answer). IsWhole s r.call) (answers cut.first)
  whole =
      all_parts (λ (r : Answer). IsWhole s r.call) c.nodes cut.first nodes
      (λ i l. let own = counted i l in
      subst (Each (λ (r : Answer). IsWhole s r.call)) (sym (cut.firsts i l))
      (All-both (λ (r : Answer). IsWhole s r.call) own.rounds (arrives k ∷ [])
      (rounds_whole work i (apart c work i place.lock own.either) work.times own.rounds own.are)
      (whole_quiet s (arrives k).call refl, tt)))

  first_half : LeadsThrough c (first c) cut.first cut.mid
  first_half = first_run c cut.first cut.mid shared.config cut.leads

  one_node : (i : ℕ) (l : i < c.nodes) → tally (adds work) (answers_of i cut.first) ≡ work.times
  one_node i l =
      let own = counted i l in
      let rounds =
      rounds_add work i (apart c work i place.lock own.either) work.times own.rounds own.are in
      let both = tally-append (adds work) own.rounds (arrives k ∷ []) in
      let whole = ap (tally (adds work)) (cut.firsts i l) in
      omega (arith, rounds, both, whole)

  -- where all have met the sum is what all added
  sum_there : word c cut.mid s ≡ c.nodes * work.times
  sum_there =
      word_last c (first c) cut.mid s cut.first first_half place.sum whole
      ∙ ap (λ u. last s u (answers cut.first)) (first_word c s)
      ∙ total [] cut.first 0 refl (λ j zs v e. absurd (none_there zs (loads s v) e))
      (subst (λ u. ReadsTheLast s u (answers cut.first)) (first_word c s)
      (reads_all c (first c) cut.mid cut.first s first_half place.sum whole))
      ∙ (let e : 0 + tally (adds work) (answers cut.first) ≡ tally (adds work)
      (answers cut.first) = omega arith in e)
      ∙ sym (parts_tally (adds work) c.nodes cut.first nodes)
      ∙ sum_up_to-same (λ i. tally (adds work) (answers_of i cut.first)) (λ _. work.times) c.nodes
      one_node
      ∙ all_alike work.times c.nodes
    where
      none_there : (zs : List Answer) (r : Answer) → [] ≡ zs ++ r ∷ [] → ⊥
      none_there [] r e = cc
      none_there (z ∷ zs) r e = cc

  all_found : (i : ℕ) → i < c.nodes → out i ≡ c.nodes * work.times
  all_found i l =
      let reads =
      settled c (first c) shared.legal.0 order k (0 + c.nodes) before after s run cut place.sum
      (λ j m. (refl, tt)) i l in
      value_is (out i) (word c cut.mid s) (reads.0 (refl, refl, refl)) ∙ sum_there

pub none-is_lost : NoneIsLost
none-is_lost c work order outs place shared i d less =
    let all = shared.all in
    all_found c work order outs d place shared i (omega (arith, less, all))
