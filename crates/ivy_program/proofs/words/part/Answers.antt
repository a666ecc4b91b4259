use Rattle.std.proofs.Common.{rules, ◌≡◌, ◌∙◌, ℕ, ◌+◌, ◌-◌, ◌<◌, true, List, [], ◌∷◌, ◌++◌, subst, append-nil, get_or, length, take, drop, refl, sym, ap, arith}
use Rattle.std.proofs.lemmas.Str.{IsCharBoundary-start, IsCharBoundary-after_ascii}
use Rattle.ivy_program.specs.texts.TextWords.{is_blank, parted_words}
use Rattle.ivy_program.proofs.reading.Cuts.{blanks_low}
use Rattle.ivy_program.proofs.reading.Wording.{IsBare, texts_to, one_more, parted_blank, parted_word, parted_last}
use Rattle.ivy_program.proofs.words.part.Goals as goal
use Rattle.ivy_program.proofs.words.part.Goals.{then-start-at+else-not-put, else-start-at}

pub loop-at-init : goal.loop-at-init
loop-at-init c = record {
  so_far = refl;
  places = omega arith;
  behind = omega arith;
  bare = λ k from to. absurd (omega arith);
  cut = IsCharBoundary-start c.as_bytes-bytes.result.now c.as_bytes-bytes.ensures.utf8;
}

pub loop-at-preserved : goal.loop-at-preserved
loop-at-preserved c =
    let bytes : List ℕ = c.as_bytes-bytes.result.now in
    let at : ℕ = c.loop-at.at in
    let start : ℕ = c.loop-at.start in
    let blank : is_blank (get_or bytes at 0) ≡ true = search rules in
    let inside : at < length bytes = omega arith in
    let after : parted_words (drop at bytes) ≡ parted_words (drop (at + 1) bytes) =
    parted_blank bytes at inside blank in
    let so_far = c.loop-at.invariant.so_far in
    record {
      so_far = elim c.if-start-at.branch [
        | then-start-at+else-not-put w ↦
            let parts = parted_word bytes start at w.if-start-at.true inside c.loop-at.invariant.bare blank in
            let cut : w.range.result.now ≡ take (at - start) (drop start bytes) =
            w.range.ensures.value
            ∙ ap (λ (t : List ℕ). take (at - start) (drop start t))
            (sym c.as_bytes-bytes.ensures.value) in
            rw (w.words-is, w.count-is)
            (one_more c.loop-at.words w.put.new.words c.loop-at.count
            (take (at - start) (drop start bytes)) (parted_words (drop start bytes))
            (parted_words (drop (at + 1) bytes)) (parted_words bytes) so_far parts
            (w.if-not-put.ensures.1
            ∙ ap (λ (x : List ℕ). texts_to c.loop-at.words c.loop-at.count ++ x ∷ []) cut))
        | else-start-at w ↦
            let same : start ≡ at = omega (arith, w.if-start-at.false, c.loop-at.invariant.behind) in
            rw (w.words-is, w.count-is)
            (ap (λ (r : List (List ℕ)). texts_to c.loop-at.words c.loop-at.count ++ r)
            (sym (ap (λ k. parted_words (drop k bytes)) same ∙ after))
            ∙ so_far)
      ];
      places = elim c.if-start-at.branch [
        | then-start-at+else-not-put w ↦
            let room = w.if-not-put.ensures.0 in
            let same = w.put.auto.words in
            rw (w.words-is, w.count-is) (omega (arith, room, same))
        | else-start-at w ↦ rw (w.words-is, w.count-is) c.loop-at.invariant.places
      ];
      behind = omega arith;
      bare = λ k from to. absurd (omega arith);
      cut = IsCharBoundary-after_ascii bytes at c.as_bytes-bytes.ensures.utf8 inside
          (blanks_low (get_or bytes at 0) blank);
    }

pub returns-else-not-put-2 : goal.returns-else-not-put-2
returns-else-not-put-2 c =
    let bytes : List ℕ = c.as_bytes-bytes.result.now in
    let start : ℕ = c.loop-at.start in
    let ended : c.loop-at.at ≡ length bytes =
    omega (arith, c.loop-at-test.false, c.loop-at.auto.at-end) in
    let cut : c.range_from.result.now ≡ drop start bytes =
    c.range_from.ensures.value
    ∙ ap (λ (t : List ℕ). drop start t) (sym c.as_bytes-bytes.ensures.value) in
    let last : texts_to c.put-then-start-bytes.new.words (c.loop-at.count + 1) ++ []
    ≡ parted_words bytes
    = one_more c.loop-at.words c.put-then-start-bytes.new.words c.loop-at.count (drop start bytes)
    (parted_words (drop start bytes)) [] (parted_words bytes) c.loop-at.invariant.so_far
    (parted_last bytes start c.if-start-bytes.true
    (subst (IsBare bytes start) ended c.loop-at.invariant.bare))
    (c.if-not-put-2.ensures.1
    ∙ ap (λ (x : List ℕ). texts_to c.loop-at.words c.loop-at.count ++ x ∷ []) cut) in (
      (let room = c.if-not-put-2.ensures.0 in omega (arith, room, c.loop-at.auto.words)),
      sym (append-nil (texts_to c.put-then-start-bytes.new.words (c.loop-at.count + 1))) ∙ last
          ∙ ap parted_words c.as_bytes-bytes.ensures.value,
    )
