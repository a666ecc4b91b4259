-- The lines of a text that have words, line by line.
use Rattle.std.proofs.Common.{◌≡◌, ◌∙◌, ℕ, zero, suc, ◌+◌, ◌<◌, Bor, true, false, List, [], ◌∷◌, ◌++◌, Option, Some, None, is_none, length, map, take, drop, slice_get, codes, refl, sym, ap, subst, append-nil, arith}
use Rattle.std.specs.Str.Lines.{lines}
use Rattle.std.specs.List.{AllZip, enumerate_from, filter}
use Rattle.std.proofs.lemmas.List.{length-map, map_push, take-map, drop-map}
use Rattle.std.proofs.lemmas.List.Elements.{filter-append}
use Rattle.ivy_model.specs.stated.Legal.{HasWidth}
use Rattle.ivy_program.specs.texts.Lines.{IsNumberWord}
use Rattle.ivy_program.specs.texts.TextWords.{words_of}
use Rattle.ivy_program.proofs.reading.Reading.{texts_of}
use Rattle.ivy_program.proofs.reading.Zips.{zip_push}
use Rattle.ivy_model.specs.declared.Record.{Record}
use Rattle.ivy_texts.specs.declared.order.Sizes.{Sizes}
use Rattle.ivy_texts.specs.Spelled.{has_words, worded, SpellsCall, SpellsOrder, SpellsRecord, SpellsReply, SpellsSizes}

abbrev Words : Type 0
Words = List (List ℕ)

pushed : (texts : Words) (text : List ℕ)
    → worded (texts ++ text ∷ []) ≡ worded texts ++ worded (text ∷ [])
pushed texts text =
    ap (filter has_words) (map_push words_of texts text)
    ∙ filter-append has_words (map words_of texts) (words_of text ∷ [])

none_alone : (words : Words) → words ≡ [] → filter has_words (words ∷ []) ≡ []
none_alone [] e = refl
none_alone (w ∷ words) e = absurd (cc e)

some_alone : (words : Words) → 0 < length words → filter has_words (words ∷ []) ≡ words ∷ []
some_alone [] h = absurd (omega (arith, h))
some_alone (w ∷ words) h = refl

no_length : (words : Words) → length words ≡ 0 → words ≡ []
no_length [] e = refl
no_length (w ∷ words) e = absurd (omega (arith, e))

-- one line more, which has no words
pub worded-blank : (texts : Words) (text : List ℕ) → words_of text ≡ []
    → worded (texts ++ text ∷ []) ≡ worded texts
worded-blank texts text e =
    pushed texts text ∙ ap (λ ws. worded texts ++ ws) (none_alone (words_of text) e)
    ∙ append-nil (worded texts)

-- one line more, which has some
pub worded-more : (texts : Words) (text : List ℕ) → 0 < length (words_of text)
    → worded (texts ++ text ∷ []) ≡ worded texts ++ words_of text ∷ []
worded-more texts text h =
    pushed texts text ∙ ap (λ ws. worded texts ++ ws) (some_alone (words_of text) h)

unnumbered : (n : ℕ) (ls : List (List ℕ))
    → map (λ (p : ℕ × List ℕ). p.1) (enumerate_from n ls) ≡ ls
unnumbered n [] = refl
unnumbered n (l ∷ ls) = ap (λ (t : List (List ℕ)). l ∷ t) (unnumbered (n + 1) ls)

of_pairs : (xs : List (ℕ × Bor (List ℕ)))
    → texts_of xs ≡ map (λ (p : ℕ × List ℕ). p.1) (map (λ x. (x.0, x.1.now)) xs)
of_pairs [] = refl
of_pairs (x ∷ xs) = ap (λ (t : List (List ℕ)). x.1.now ∷ t) (of_pairs xs)

-- lines that come with their places are the lines
pub texts-all : (ls : List (List ℕ)) (xs : List (ℕ × Bor (List ℕ)))
    → map (λ x. (x.0, x.1.now)) xs ≡ enumerate_from 0 ls → texts_of xs ≡ ls
texts-all ls xs e =
    of_pairs xs ∙ ap (map (λ (p : ℕ × List ℕ). p.1)) e ∙ unnumbered 0 ls

module _ (xs : List (ℕ × Bor (List ℕ))) (place : ℕ) (line : Bor (List ℕ))
    (ws : List (Bor (List ℕ))) (e : map (λ w. w.now) ws ≡ words_of line.now) where
  pushed_text : texts_of (xs ++ (place, line) ∷ []) ≡ texts_of xs ++ line.now ∷ []
  pushed_text = map_push (λ x. x.1.now) xs (place, line)

  count : length (words_of line.now) ≡ length ws
  count = ap length (sym e) ∙ length-map ws (λ w. w.now)

  -- the next line of those that come with their places has no words
  pub texts-blank : length ws ≡ 0
      → worded (texts_of (xs ++ (place, line) ∷ [])) ≡ worded (texts_of xs)
  texts-blank none =
      ap worded pushed_text
      ∙ worded-blank (texts_of xs) line.now (no_length (words_of line.now) (count ∙ none))

  -- and it has some
  pub texts-more : 0 < length ws
      → worded (texts_of (xs ++ (place, line) ∷ [])) ≡ worded (texts_of xs) ++ map (λ w. w.now) ws ∷ []
  texts-more some =
      ap worded pushed_text
      ∙ (worded-more (texts_of xs) line.now (omega (arith, count, some))
      ∙ ap (λ words. worded (texts_of xs) ++ words ∷ []) (sym e))

-- the lines so far say the sizes, if they are known, and then these records
abbrev pub IsOrderSoFar : List Words → Option Sizes → List Record → Type 0
IsOrderSoFar said None records = (said ≡ []) × (records ≡ [])
IsOrderSoFar said (Some sizes) records = (first : Words) × (rest : List Words)
    × (said ≡ first ∷ rest) × SpellsSizes first sizes × AllZip SpellsRecord rest records

pub order-begun : (said : List Words) (words : Words) (old : Option Sizes) (sizes : Sizes)
    (records : List Record) → is_none old ≡ true → IsOrderSoFar said old records
    → SpellsSizes words sizes → IsOrderSoFar (said ++ words ∷ []) (Some sizes) records
order-begun said words None sizes records is so_far spelled = (
  words,
  [],
  ap (λ (s : List Words). s ++ words ∷ []) so_far.0,
  spelled,
  subst (AllZip SpellsRecord []) (sym so_far.1) tt,
)
order-begun said words (Some s) sizes records is so_far spelled = absurd (cc is)

pub order-more : (said : List Words) (words : Words) (old : Option Sizes) (records : List Record)
    (r : Record) → is_none old ≡ false → IsOrderSoFar said old records → SpellsRecord words r
    → IsOrderSoFar (said ++ words ∷ []) old (records ++ r ∷ [])
order-more said words None records r is so_far spelled = absurd (cc is)
order-more said words (Some s) records r is so_far spelled = (
  so_far.0,
  so_far.1 ++ words ∷ [],
  ap (λ (ls : List Words). ls ++ words ∷ []) so_far.2,
  so_far.3,
  zip_push SpellsRecord so_far.1 records words r so_far.4 spelled,
)

pub order-whole : (text : List ℕ) (sizes : Sizes) (records : List Record)
    → IsOrderSoFar (worded (lines text)) (Some sizes) records → SpellsOrder text sizes records
order-whole text sizes records h = record {
  first = h.0;
  rest = h.1;
  lines = h.2;
  sized = h.3;
  recorded = h.4;
}

cut_at : (ms : Words) (at : ℕ) (x : List ℕ) → slice_get ms at ≡ Some x
    → ms ≡ take at ms ++ x ∷ drop (at + 1) ms
cut_at [] at x e = absurd (cc e)
cut_at (m ∷ ms) zero x e =
    let same : m ≡ x = cc e in ap (λ (y : List ℕ). y ∷ ms) same
cut_at (m ∷ ms) (suc at) x e =
    let further : suc (at + 1) ≡ suc at + 1 = omega arith in
    ap (λ (t : Words). m ∷ t) (cut_at ms at x e)
    ∙ ap (λ n. m ∷ (take at ms ++ x ∷ drop n (m ∷ ms))) further

-- a node, and what is said of it: a call, an equals sign and a reply
pub record-said : (words said : List (Bor (List ℕ))) (node : Bor (List ℕ)) (at : ℕ) (r : Record)
    → words ≡ node ∷ said → slice_get (map (λ w. w.now) said) at ≡ Some (codes "=")
    → IsNumberWord node.now r.node → SpellsCall (map (λ w. w.now) (take at said)) r.call
    → HasWidth r.call → SpellsReply (map (λ w. w.now) (drop (at + 1) said)) r.reply
    → SpellsRecord (map (λ w. w.now) words) r
record-said words said node at r parts equals named called width replied =
    let texts : Words = map (λ w. w.now) said in
    let front : take at texts ≡ map (λ w. w.now) (take at said) = take-map (λ w. w.now) at said in
    let back : drop (at + 1) texts ≡ map (λ w. w.now) (drop (at + 1) said) =
    drop-map (λ w. w.now) (at + 1) said in
    record {
      node = node.now;
      call = take at texts;
      reply = drop (at + 1) texts;
      parts = ap (map (λ w. w.now)) parts
          ∙ ap (λ (ws : Words). node.now ∷ ws) (cut_at texts at (codes "=") equals);
      named = named;
      called = subst (λ ws. SpellsCall ws r.call) (sym front) called;
      width = width;
      replied = subst (λ ws. SpellsReply ws r.reply) (sym back) replied;
    }
