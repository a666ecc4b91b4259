-- Each node gives its row of the product.
use Rattle.std.proofs.Common.{◌≡◌, ℕ, zero, suc, ◌+◌, ◌*◌, ◌/◌, ◌%◌, ◌^◌, ◌<◌, ◌≤◌, ◌⊎◌, inl, inr}
use Rattle.std.proofs.Common.{false}
use Rattle.std.proofs.Common.{List, [], ◌∷◌, ◌++◌, length, Some, refl, sym, ap, ap₂, subst, ◌∙◌}
use Rattle.std.proofs.Common.{arith}
use Rattle.std.proofs.Common.{mod-eq_of_lt, if◌then◌else◌, append_assoc}
use Rattle.std.specs.Prelude.{slice_get, slice_index}
use Rattle.std.specs.List.{AllByRecursion as Each, slice_index_or}
use Rattle.std.specs.Global.{Vec}
use Rattle.std.proofs.lemmas.Bool.{cases_eq, cases_lt, eq-eqb, ne_eqb, eqb-true}
use Rattle.std.proofs.lemmas.Nat.{mod_below, div-add-mod'}
use Rattle.std.proofs.Math.Nat.{mul-le-mul_right, mod-add-div, add-mul-mod_self_left}
use Rattle.ivy_model.specs.declared.config.Config.{Config}
use Rattle.ivy_model.specs.declared.call.Record.{Record}
use Rattle.ivy_model.specs.declared.call.Reply.TheVariants.{Value}
use Rattle.ivy_model.specs.stated.Memory.{first}
use Rattle.ivy_calls.specs.declared.answer.Answer.{Answer}
use Rattle.ivy_calls.specs.Answers.{answers_of}
use Rattle.ivy_calls.specs.Shared.{AreShared}
use Rattle.ivy_sync.specs.meeting.Barriers.{CrossesAt}
use Rattle.ivy_sync.specs.meeting.Counts.{is_advance_of, NoAdvance}
use Rattle.ivy_sync.specs.Doing.{loads, stores}
use Rattle.ivy_sync.specs.meeting.Reductions.{finds}
use Rattle.ivy_sync.specs.meeting.Sums.{sum_up_to}
use Rattle.ivy_sync.specs.HeapWords.{is_write_in, NoWrite, IsWhole, Reads, last, word}
use Rattle.ivy_sync.proofs.answers.First.{first_run, first_count}
use Rattle.ivy_sync.proofs.answers.Lists.{All-both}
use Rattle.ivy_sync.proofs.meeting.Phases.{phases-share}
use Rattle.ivy_sync.proofs.meeting.Reductions.{find_at, some_there, finds_quiet, finds-append}
use Rattle.ivy_sync.proofs.excluding.Registers.{last-append}
use Rattle.ivy_sync.proofs.answers.AnswerTotals.{sum_up_to-same}
use Rattle.example_programs.specs.declared.product.Product.{Product}
use Rattle.example_programs.specs.Matrices.{IsRow, stores_of}
use Rattle.example_programs.specs.Product.{HasMultiplied, IsProductPlace, ProductsByRows}
use Rattle.example_programs.proofs.Summing.{item_at}

puts_quiet : (at : ℕ) (vs : List ℕ) (k from n : ℕ) → NoAdvance k (stores_of at vs from n)
puts_quiet at vs k from zero = tt
puts_quiet at vs k from (suc n) =
    All-both (λ (r : Answer). is_advance_of k r.call ≡ false) (stores_of at vs from n)
    (stores (at + 8 * (from + n)) (slice_index vs (from + n)) ∷ []) (puts_quiet at vs k from n)
    (refl, tt)

module _ (at : ℕ) (vs : List ℕ) (aligned : at % 8 ≡ 0) where
  same_word : (x y : ℕ) → (at + 8 * y) / 8 ≡ (at + 8 * x) / 8 → y ≡ x
  same_word x y e = omega (arith, e, aligned)

  -- each number has its word
  puts_whole : (x from n : ℕ) → Each (λ (r : Answer). IsWhole (at + 8 * x) r.call)
      (stores_of at vs from n)
  puts_whole x from zero = tt
  puts_whole x from (suc n) =
      All-both (λ (r : Answer). IsWhole (at + 8 * x) r.call) (stores_of at vs from n)
      (stores (at + 8 * (from + n)) (slice_index vs (from + n)) ∷ []) (puts_whole x from n) (
        λ t. (
          refl,
          ap (λ y. at + 8 * y) (same_word x (from + n)
              (eqb-true ((at + 8 * (from + n)) / 8) ((at + 8 * x) / 8) t)),
        ),
        tt,
      )

  -- those of other places are not touched
  puts_elsewhere : (x from n : ℕ) → (x < from) ⊎ (from + n ≤ x)
      → NoWrite (at + 8 * x) (stores_of at vs from n)
  puts_elsewhere x from zero out = tt
  puts_elsewhere x from (suc n) out =
      All-both (λ (r : Answer). is_write_in (at + 8 * x) r.call ≡ false) (stores_of at vs from n)
      (stores (at + 8 * (from + n)) (slice_index vs (from + n)) ∷ [])
      (puts_elsewhere x from n (elim out [ inl l ↦ inl l | inr m ↦ inr (omega (arith, m)) ])) (
        ne_eqb ((at + 8 * (from + n)) / 8) ((at + 8 * x) / 8)
            (λ e. not_here (same_word x (from + n) e) out),
        tt,
      )
    where
      not_here : from + n ≡ x → (x < from) ⊎ (from + suc n ≤ x) → ⊥
      not_here e (inl l) = omega (arith, e, l)
      not_here e (inr m) = omega (arith, e, m)

  -- and its own has the number
  puts_last : (x from n v : ℕ) → ((k : ℕ) → slice_index vs k < 2 ^ 64) → from ≤ x → x < from + n
      → last (at + 8 * x) v (stores_of at vs from n) ≡ slice_index vs x
  puts_last x from zero v fits low high = absurd (omega (arith, low, high))
  puts_last x from (suc n) v fits low high =
      let store : Answer = stores (at + 8 * (from + n)) (slice_index vs (from + n)) in
      last-append (at + 8 * x) v (stores_of at vs from n) (store ∷ [])
      ∙ elim (cases_eq (from + n) x) [
        | inl same ↦
            ap (λ b. if b then slice_index vs (from + n) % 2 ^ 64 else last (at + 8 * x) v
            (stores_of at vs from n)) (eq-eqb ((at + 8 * (from + n)) / 8) ((at + 8 * x) / 8)
            (ap (λ y. (at + 8 * y) / 8) same))
            ∙ mod-eq_of_lt (fits (from + n)) ∙ ap (slice_index vs) same
        | inr other ↦
            ap (λ b. if b then slice_index vs (from + n) % 2 ^ 64 else last (at + 8 * x) v
            (stores_of at vs from n)) (ne_eqb ((at + 8 * (from + n)) / 8) ((at + 8 * x) / 8)
            (λ e. other (same_word x (from + n) e)))
            ∙ puts_last x from n v fits low (omega (arith, high, other))
      ]

-- the number found is the one at its index
index_of : (vs : List ℕ) (k v : ℕ) → slice_get vs k ≡ Some v → slice_index vs k ≡ v
index_of [] k v e = absurd (cc)
index_of (x ∷ vs) zero v e = cc
index_of (x ∷ vs) (suc k) v e = index_of vs k v e

module _ (c : Config) (work : Product) (order : List Record) (outs : List (Vec ℕ)) (d : Vec ℕ)
    (place : IsProductPlace c work)
    (shared : AreShared c (λ me history (out : Vec ℕ). HasMultiplied work me history out.items)
    order
    outs) where
  abbrev size : ℕ
  size = work.barrier.nodes

  abbrev addr : ℕ
  addr = work.addr

  made : (i : ℕ) → i < c.nodes
      → HasMultiplied work i (answers_of i order) (slice_index_or outs i d).items
  made i l =
      let all = shared.all in
      shared.each i (slice_index_or outs i d) (item_at outs i d (omega (arith, l, all)))

  abbrev before : (i : ℕ) → i < c.nodes → List Answer
  before i l = stores_of addr work.right.items (i * size) size

  abbrev after : (i : ℕ) → i < c.nodes → List Answer
  after i l = finds addr 0 (made i l).right

  least : 0 + c.nodes ≡ work.barrier.passed + size
  least = ap₂ (λ (x : ℕ) (y : ℕ). x + y) (sym place.first) (sym place.nodes)

  cross : (i : ℕ) (l : i < c.nodes)
      → CrossesAt work.barrier.count (0 + c.nodes) (before i l) (after i l) (answers_of i order)
  cross i l =
      subst (λ n. CrossesAt work.barrier.count n (before i l) (after i l) (answers_of i order))
      (sym least)
      (record {
        found = (made i l).found;
        whole = (made i l).whole;
        alone = puts_quiet addr work.right.items work.barrier.count (i * size) size;
      })

  -- the row that a place is in
  row_below : (x : ℕ) → x < c.nodes * c.nodes → x / size < c.nodes
  row_below x l =
      let same = place.nodes in
      let split : x / size * size + x % size ≡ x = div-add-mod' x size in
      elim (cases_lt (x / size) c.nodes) [
        | inl below ↦ below
        | inr past ↦
            let more : c.nodes * size ≤ x / size * size = mul-le-mul_right size past in
            let e : c.nodes * size ≡ c.nodes * c.nodes = ap (λ n. c.nodes * n) same in
            absurd (omega (arith, more, e, split, l))
      ]

  other_row : (x j : ℕ) → 0 < size → (j ≡ x / size → ⊥) → (x < j * size) ⊎ (j * size + size ≤ x)
  other_row x j some ne =
      let split : x / size * size + x % size ≡ x = div-add-mod' x size in
      let inside = mod_below x size some in
      elim (cases_lt j (x / size)) [
        | inl below ↦
            let next : j + 1 ≤ x / size = omega (arith, below) in
            let more : (j + 1) * size ≤ x / size * size = mul-le-mul_right size next in
            let e : (j + 1) * size ≡ j * size + size = grind arith in
            inr (omega (arith, more, e, split))
        | inr past ↦
            let above : x / size + 1 ≤ j = omega (arith, past, ne) in
            let more : (x / size + 1) * size ≤ j * size = mul-le-mul_right size above in
            let e : (x / size + 1) * size ≡ x / size * size + size = grind arith in
            inl (omega (arith, more, e, split, inside))
      ]

  -- each node found the right matrix
  found_at : (i x : ℕ) (l : i < c.nodes) → x < c.nodes * c.nodes
      → slice_index (made i l).right x ≡ slice_index work.right.items x
  found_at i x l m =
      let same = place.nodes in
      let all = (made i l).all in
      let square : size * size ≡ c.nodes * c.nodes = ap (λ n. n * n) same in
      let some : 0 < size = omega (arith, l, same) in
      let r : x / size < c.nodes = row_below x m in
      let a : ℕ = addr + 8 * x in
      let v = some_there (made i l).right x (omega (arith, all, square, m)) in
      let P : Answer → Type 0 = λ q. Reads a q.call
      → q.reply ≡ Value (last a (word c (first c) a) (before (x / size) r)) in
      let reads : Each P (after i l) =
      phases-share c (first c) shared.legal.0 order work.barrier.count 0 before after a (x / size) r
      (first_run c order shared.legal.0 shared.config shared.legal.1)
      (first_count c work.barrier.count place.count) cross (place.words x m)
      (puts_whole addr work.right.items place.aligned x (x / size * size) size)
      (λ j b ne. puts_elsewhere addr work.right.items place.aligned x (j * size) size
      (other_row x j some ne))
      (λ j b. finds_quiet addr a 0 (made j b).right) i l in
      let here = find_at P addr 0 x (made i l).right v.0 reads v.1 in
      let zero_x : 0 + x ≡ x = omega arith in
      let value : Value v.0 ≡ Value (last a (word c (first c) a) (before (x / size) r)) =
      here (refl, ap (λ y. addr + 8 * y) zero_x, refl) in
      let number : v.0 ≡ last a (word c (first c) a) (before (x / size) r) = cc in
      let split : x / size * size + x % size ≡ x = div-add-mod' x size in
      let inside = mod_below x size some in
      index_of (made i l).right x v.0 v.1 ∙ number
      ∙ puts_last addr work.right.items place.aligned x (x / size * size) size (word c (first c) a)
      place.fits (omega (arith, split)) (omega (arith, split, inside))

  pub is_row : (i : ℕ) (l : i < c.nodes)
      → IsRow c.nodes work.left.items work.right.items i (slice_index_or outs i d).items
  is_row i l =
      let same = place.nodes in
      subst (λ n. IsRow n work.left.items work.right.items i (slice_index_or outs i d).items) same
      (record {
        all = (made i l).row.all;
        each = λ j b. (made i l).row.each j b
            ∙ ap (λ n. n % 2 ^ 64)
            (sum_up_to-same
            (λ k. slice_index work.left.items (i * size + k) * slice_index (made i l).right
            (k * size + j))
            (λ k. slice_index work.left.items (i * size + k) * slice_index work.right.items
            (k * size + j))
            size
            (λ k m. ap (λ n. slice_index work.left.items (i * size + k) * n) (found_at i
            (k * size + j) l
            (inside k j m b))));
      })
    where
      inside : (k j : ℕ) → k < size → j < size → k * size + j < c.nodes * c.nodes
      inside k j m b =
          let same = place.nodes in
          let square : size * size ≡ c.nodes * c.nodes = ap (λ n. n * n) same in
          let next : k + 1 ≤ size = omega (arith, m) in
          let more : (k + 1) * size ≤ size * size = mul-le-mul_right size next in
          let e : (k + 1) * size ≡ k * size + size = grind arith in
          omega (arith, square, more, e, b)

given_at : (outs : List (Vec ℕ)) (i : ℕ) (out : Vec ℕ) → slice_get outs i ≡ Some out
    → (i < length outs) × (slice_index_or outs i out ≡ out)
given_at [] i out e = absurd (cc)
given_at (o ∷ outs) zero out e = (omega arith, cc)
given_at (o ∷ outs) (suc i) out e = let w = given_at outs i out e in (omega arith, w.1)

pub products-by_rows : ProductsByRows
products-by_rows c work order outs place shared i out e =
    let w = given_at outs i out e in
    let all = shared.all in
    let there = w.0 in
    subst (λ (o : Vec ℕ). IsRow c.nodes work.left.items work.right.items i o.items) w.1
    (is_row c work order outs out place shared i (omega (arith, there, all)))

-- a sum modulo a number, one product more
mod_both : (s p m : ℕ) → (s % m + p % m) % m ≡ (s + p) % m
mod_both s p m =
    let twice : m * (s / m + p / m) ≡ m * (s / m) + m * (p / m) = grind arith in
    let whole : s + p ≡ s % m + p % m + m * (s / m + p / m) =
    omega (arith, mod-add-div s m, mod-add-div p m, twice) in
    sym (ap (λ n. n % m) whole ∙ add-mul-mod_self_left (s % m + p % m) m (s / m + p / m))

pub sum_more : (f : ℕ → ℕ) (k s : ℕ) → s ≡ sum_up_to f k % 2 ^ 64
    → (s + f k % 2 ^ 64) % 2 ^ 64 ≡ sum_up_to f (k + 1) % 2 ^ 64
sum_more f k s e =
    ap (λ n. (n + f k % 2 ^ 64) % 2 ^ 64) e ∙ mod_both (sum_up_to f k) (f k) (2 ^ 64)
    ∙ ap (λ n. sum_up_to f n % 2 ^ 64) (let next : suc k ≡ k + 1 = omega arith in next)

-- one number more is stored
pub puts_more : (at : ℕ) (vs : List ℕ) (from k place : ℕ) (v : ℕ) (old new : List Answer)
    → old ≡ stores_of at vs from k → place ≡ at + 8 * (from + k) → v ≡ slice_index vs (from + k)
    → new ≡ old ++ stores place v ∷ []
    → new ≡ stores_of at vs from (k + 1)
puts_more at vs from k place v old new e p is adds =
    adds ∙ ap (λ (l : List Answer). l ++ stores place v ∷ []) e
    ∙ ap₂ (λ (x : ℕ) (y : ℕ). stores_of at vs from k ++ stores x y ∷ []) p is
    ∙ ap (stores_of at vs from) (let next : suc k ≡ k + 1 = omega arith in next)

-- and one found
pub finds_more : (at k place v : ℕ) (vs : List ℕ) (first old new : List Answer)
    → old ≡ first ++ finds at 0 vs → length vs ≡ k → place ≡ at + 8 * k
    → new ≡ old ++ loads place v ∷ []
    → new ≡ first ++ finds at 0 (vs ++ v ∷ [])
finds_more at k place v vs first old new e long p adds =
    let here : place ≡ at + 8 * (0 + length vs) = omega (arith, p, long) in
    adds ∙ ap₂ (λ (l : List Answer) (x : ℕ). l ++ loads x v ∷ []) e here
    ∙ append_assoc first (finds at 0 vs) (loads (at + 8 * (0 + length vs)) v ∷ [])
    ∙ ap (λ (l : List Answer). first ++ l) (sym (finds-append at 0 vs v))

-- a list that a number is added to at the end
front_at : (xs : List ℕ) (v j : ℕ) → j < length xs
    → slice_index (xs ++ v ∷ []) j ≡ slice_index xs j
front_at [] v j l = absurd (omega (arith, l))
front_at (x ∷ xs) v zero l = refl
front_at (x ∷ xs) v (suc j) l = front_at xs v j (omega (arith, l))

last_at : (xs : List ℕ) (v : ℕ) → slice_index (xs ++ v ∷ []) (length xs) ≡ v
last_at [] v = refl
last_at (x ∷ xs) v = last_at xs v

pub index_push : (xs new : List ℕ) (n v : ℕ) (f : ℕ → ℕ) → length xs ≡ n
    → ((j : ℕ) → j < n → slice_index xs j ≡ f j) → v ≡ f n → new ≡ xs ++ v ∷ []
    → (j : ℕ) → j < n + 1 → slice_index new j ≡ f j
index_push xs new n v f long each is e j l =
    ap (λ (ys : List ℕ). slice_index ys j) e
    ∙ elim (cases_lt j n) [
      | inl below ↦ front_at xs v j (omega (arith, below, long)) ∙ each j below
      | inr past ↦
          let same : j ≡ n = omega (arith, past, l) in
          ap (slice_index (xs ++ v ∷ [])) (same ∙ sym long) ∙ last_at xs v ∙ is ∙ ap f (sym same)
    ]
