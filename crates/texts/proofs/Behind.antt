-- Words, one behind the other: behind the last one there is none.
-- Assumes nothing.
use Rattle.std.proofs.Common.{◌≡◌, ℕ, suc, ◌+◌, true, false, List, [], ◌∷◌, Bor, length, take, drop, refl, sym, ap, ◌∙◌, arith, eqb, ltb}
use Rattle.sudoku.specs.Tests.{bit}
use Rattle.sudoku.proofs.Walks.{by_test}
use borrow.Author.Tests.{eqb-true, eqb-false, lt-ltb}
use Rattle.texts.specs.declared.Words.TheVariants as words
use Rattle.texts.specs.Commands.{is_blank, from_word, word_of, behind_word, counted, said, said_of}

-- ---- an empty word is the last

drop_one : (n byte : ℕ) (line : List ℕ) → drop (1 + n) (byte ∷ line) ≡ drop n line
drop_one n byte line = let e : 1 + n ≡ suc n = omega arith in ap (λ (k : ℕ). drop k (byte ∷ line)) e

take_one : (n byte : ℕ) (line : List ℕ) → take (1 + n) (byte ∷ line) ≡ byte ∷ take n line
take_one n byte line = let e : 1 + n ≡ suc n = omega arith in ap (λ (k : ℕ). take k (byte ∷ line)) e

from_blank : (byte : ℕ) (line : List ℕ) → is_blank byte ≡ true → from_word (byte ∷ line) ≡ from_word line
unfolding from_word
from_blank byte line h = simp (h, drop_one)

from_other : (byte : ℕ) (line : List ℕ) → is_blank byte ≡ false → from_word (byte ∷ line) ≡ byte ∷ line
unfolding from_word
from_other byte line h = simp h

behind_none : behind_word [] ≡ []
unfolding behind_word from_word
behind_none = refl

nothing_behind : (line : List ℕ) → word_of line ≡ [] → behind_word line ≡ []
unfolding word_of behind_word
nothing_behind [] e = behind_none
nothing_behind (byte ∷ line) e =
    by_test (is_blank byte)
    (λ h. simp (from_blank byte line h) (nothing_behind line (simp (from_blank byte line h) at e)))
    (λ h. let w = simp (from_other byte line h, h, take_one) at e in absurd cc)

no_word : word_of [] ≡ []
unfolding word_of from_word
no_word = refl

pub none_after : (line : List ℕ) → word_of line ≡ [] → word_of (behind_word line) ≡ []
none_after line e = ap word_of (nothing_behind line e) ∙ no_word

-- ---- how many words there are

pub counted_none : (word : List ℕ) → word ≡ [] → counted word ≡ 0
unfolding counted bit
counted_none word e = ap counted e

pub counted_one : (word : List ℕ) → eqb (length word) 0 ≡ false → counted word ≡ 1
unfolding counted bit
counted_one word h =
    let n = eqb-false (length word) 0 h in
    let t : ltb 0 (length word) ≡ true = lt-ltb 0 (length word) (omega arith) in
    simp t

is_none : (word : List ℕ) → eqb (length word) 0 ≡ true → word ≡ []
is_none [] h = refl
is_none (byte ∷ word) h = absurd (omega (arith, eqb-true (length (byte ∷ word)) 0 h))

-- ---- what is said of a text whose words are these, by which of them are empty

abbrev IsEmpty : Bor (List ℕ) → Type 0
IsEmpty word = eqb (length word.now) 0 ≡ true

abbrev IsThere : Bor (List ℕ) → Type 0
IsThere word = eqb (length word.now) 0 ≡ false

pub no_word_said : (text : List ℕ) (one : Bor (List ℕ)) → one.now ≡ word_of text → IsEmpty one → said words.Zero ≡ said_of text
unfolding said said_of
no_word_said text one first h =
    let a = sym first ∙ is_none one.now h in
    let b = none_after text a in
    let c = none_after (behind_word text) b in
    let d = none_after (behind_word (behind_word text)) c in
    simp (a, b, c, d, counted_none [] refl)

module _ (text : List ℕ) (one rest : Bor (List ℕ)) (first : one.now ≡ word_of text) (there : IsThere one) (behind : rest.now ≡ behind_word text) where
  pub one_word_said : (two : Bor (List ℕ)) → two.now ≡ word_of rest.now → IsEmpty two → said (words.One one) ≡ said_of text
  unfolding said said_of
  one_word_said two second h =
      let b = sym (second ∙ ap word_of behind) ∙ is_none two.now h in
      let c = none_after (behind_word text) b in
      let d = none_after (behind_word (behind_word text)) c in
      simp (sym first, b, c, d, counted_one one.now there, counted_none [] refl)

  module _ (two rest_two : Bor (List ℕ)) (second : two.now ≡ word_of rest.now) (both : IsThere two) (behind_two : rest_two.now ≡ behind_word rest.now) where
    pub two_words_said : (three : Bor (List ℕ)) → three.now ≡ word_of rest_two.now → IsEmpty three → said (words.Two one two) ≡ said_of text
    unfolding said said_of
    two_words_said three third h =
        let b = second ∙ ap word_of behind in
        let c = sym (third ∙ ap word_of (behind_two ∙ ap behind_word behind)) ∙ is_none three.now h in
        let d = none_after (behind_word (behind_word text)) c in
        simp (sym first, sym b, c, d, counted_one one.now there, counted_one two.now both, counted_none [] refl)

    module _ (three rest_three four : Bor (List ℕ)) (third : three.now ≡ word_of rest_two.now) (all : IsThere three) (behind_three : rest_three.now ≡ behind_word rest_two.now) (fourth : four.now ≡ word_of rest_three.now) where
      second_is : word_of (behind_word text) ≡ two.now
      second_is = sym (second ∙ ap word_of behind)

      third_is : word_of (behind_word (behind_word text)) ≡ three.now
      third_is = sym (third ∙ ap word_of (behind_two ∙ ap behind_word behind))

      fourth_is : word_of (behind_word (behind_word (behind_word text))) ≡ four.now
      fourth_is = sym (fourth ∙ ap word_of (behind_three ∙ ap behind_word (behind_two ∙ ap behind_word behind)))

      pub three_words_said : IsEmpty four → said (words.Three one two three) ≡ said_of text
      unfolding said said_of
      three_words_said h =
          simp (sym first, second_is, third_is, fourth_is, counted_one one.now there, counted_one two.now both, counted_one three.now all, counted_none four.now (is_none four.now h))

      pub more_words_said : IsThere four → said (words.More one two three) ≡ said_of text
      unfolding said said_of
      more_words_said h =
          simp (sym first, second_is, third_is, fourth_is, counted_one one.now there, counted_one two.now both, counted_one three.now all, counted_one four.now h)
