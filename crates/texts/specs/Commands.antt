-- A line of the console taken apart: the letter of its command, and the words after it.
-- Assumes nothing.
use Rattle.std.specs.Prelude.{ℕ, ◌+◌, ◌-◌, ◌*◌, Bool, not, List, [], ◌∷◌, Option, Some, None, option_and_then, ltb, leb, eqb, length, get_or, take, drop}
use Rattle.std.specs.List.{position_or_len}
use Rattle.sudoku.specs.Tests.{pick, both, either, bit, every, ◌⇒◌, first}
use Rattle.texts.specs.declared.Verb.{Verb}
use Rattle.texts.specs.declared.Verb.TheVariants.{Place, Erase, Mark, Undo, Redo, Check, Latest, Next, Move, Left, Board, Save, Open, Puzzle, Line, Help, Quit, NoWord, Unknown}
use Rattle.texts.specs.declared.Words.{Words}
use Rattle.texts.specs.declared.Words.TheVariants as words
use Rattle.texts.specs.declared.Command.{Command}

-- two texts are the same
unfoldable pub is_same : List ℕ → List ℕ → Bool
is_same a b = both (eqb (length a) (length b)) (every (λ i. eqb (get_or a i 0) (get_or b i 0)) (length a) 0)

-- a blank, a tab, and what some systems put before a line's end
unfoldable pub is_blank : ℕ → Bool
is_blank byte = either (eqb byte 32) (either (eqb byte 9) (eqb byte 13))

-- a line from its first byte on that is no blank
unfoldable pub from_word : List ℕ → List ℕ
from_word line = drop (position_or_len (λ byte. not (is_blank byte)) line) line

-- the first word of a line; an empty one at the end of the line
unfoldable pub word_of : List ℕ → List ℕ
word_of line = take (position_or_len is_blank (from_word line)) (from_word line)

-- what of the line follows that word
unfoldable pub behind_word : List ℕ → List ℕ
behind_word line = drop (position_or_len is_blank (from_word line)) (from_word line)

-- 1 where a word is there, 0 where it is empty
unfoldable pub counted : List ℕ → ℕ
counted word = bit (ltb 0 (length word))

-- a number with one more figure, which counts as at most 65,535; none where that is no figure
unfoldable pub with_figure : ℕ → ℕ → Option ℕ
with_figure n byte =
    pick (both (leb 48 byte) (leb byte 57)) (Some (pick (ltb 6000 n) 65535 (10 * n + (byte - 48)))) None

-- a number with the figures of a text behind it; none where one of them is no figure
unfoldable pub with_figures : ℕ → List ℕ → Option ℕ
with_figures n [] = Some n
with_figures n (byte ∷ text) = option_and_then (λ m. with_figures m text) (with_figure n byte)

-- the number that a text says; an empty one says none
unfoldable pub number_of : List ℕ → Option ℕ
number_of text = pick (eqb (length text) 0) None (with_figures 0 text)

-- the letters of the commands by their names; 0 for another name. Of play: place p, erase e, mark m, undo u, redo r,
-- check c
unfoldable pub verb_of_play : List ℕ → ℕ
verb_of_play name =
    first
    ((is_same name (112 ∷ 108 ∷ 97 ∷ 99 ∷ 101 ∷ []) ⇒ 112)
    ∷ (is_same name (101 ∷ 114 ∷ 97 ∷ 115 ∷ 101 ∷ []) ⇒ 101)
    ∷ (is_same name (109 ∷ 97 ∷ 114 ∷ 107 ∷ []) ⇒ 109)
    ∷ (is_same name (117 ∷ 110 ∷ 100 ∷ 111 ∷ []) ⇒ 117)
    ∷ (is_same name (114 ∷ 101 ∷ 100 ∷ 111 ∷ []) ⇒ 114)
    ∷ (is_same name (99 ∷ 104 ∷ 101 ∷ 99 ∷ 107 ∷ []) ⇒ 99)
    ∷ [])

-- the others: latest l, next n, move k, left d, board b, save w, open o, puzzle z, line i, help h, quit q
unfoldable pub verb_of_rest : List ℕ → ℕ
verb_of_rest name =
    first
    ((is_same name (108 ∷ 97 ∷ 116 ∷ 101 ∷ 115 ∷ 116 ∷ []) ⇒ 108)
    ∷ (is_same name (110 ∷ 101 ∷ 120 ∷ 116 ∷ []) ⇒ 110)
    ∷ (is_same name (109 ∷ 111 ∷ 118 ∷ 101 ∷ []) ⇒ 107)
    ∷ (is_same name (108 ∷ 101 ∷ 102 ∷ 116 ∷ []) ⇒ 100)
    ∷ (is_same name (98 ∷ 111 ∷ 97 ∷ 114 ∷ 100 ∷ []) ⇒ 98)
    ∷ (is_same name (115 ∷ 97 ∷ 118 ∷ 101 ∷ []) ⇒ 119)
    ∷ (is_same name (111 ∷ 112 ∷ 101 ∷ 110 ∷ []) ⇒ 111)
    ∷ (is_same name (112 ∷ 117 ∷ 122 ∷ 122 ∷ 108 ∷ 101 ∷ []) ⇒ 122)
    ∷ (is_same name (108 ∷ 105 ∷ 110 ∷ 101 ∷ []) ⇒ 105)
    ∷ (is_same name (104 ∷ 101 ∷ 108 ∷ 112 ∷ []) ⇒ 104)
    ∷ (is_same name (113 ∷ 117 ∷ 105 ∷ 116 ∷ []) ⇒ 113)
    ∷ [])

-- a name of one letter is itself the letter
unfoldable pub verb_of : List ℕ → ℕ
verb_of name =
    pick (eqb (length name) 1) (get_or name 0 0)
    (pick (eqb (verb_of_play name) 0) (verb_of_rest name) (verb_of_play name))

-- the letter of a line that has no word, which no line can hold: its end
abbrev pub no_verb : ℕ
no_verb = 10

unfoldable pub line_verb : List ℕ → ℕ
line_verb name = pick (ltb 0 (length name)) (verb_of name) no_verb

-- the command of a letter; of another letter an unknown one, which keeps it, and of the 0 of another name one without
-- a letter
unfoldable pub verb_of_letter : ℕ → Verb
verb_of_letter letter =
    pick (eqb letter 112) Place
    (pick (eqb letter 101) Erase
    (pick (eqb letter 109) Mark
    (pick (eqb letter 117) Undo
    (pick (eqb letter 114) Redo
    (pick (eqb letter 99) Check
    (pick (eqb letter 108) Latest
    (pick (eqb letter 110) Next
    (pick (eqb letter 107) Move
    (pick (eqb letter 100) Left
    (pick (eqb letter 98) Board
    (pick (eqb letter 119) Save
    (pick (eqb letter 111) Open
    (pick (eqb letter 122) Puzzle
    (pick (eqb letter 105) Line
    (pick (eqb letter 104) Help
    (pick (eqb letter 113) Quit
    (pick (eqb letter no_verb) NoWord
    (pick (eqb letter 0) (Unknown None) (Unknown (Some letter))))))))))))))))))))

-- the command of the letter of a name; none where no name was found
unfoldable pub found : ℕ → Option Verb
found letter = pick (eqb letter 0) None (Some (verb_of_letter letter))

-- what a command says: its verb, how many words follow it, and the first three of them
pub record Request : Type 0 where
  pub verb : Verb
  pub words : ℕ
  pub first : List ℕ
  pub second : List ℕ
  pub third : List ℕ

-- what the words behind a command say: how many there are, 4 where there are more than three, and the first three of
-- them, [] for each that is not there
pub record Said : Type 0 where
  pub count : ℕ
  pub first : List ℕ
  pub second : List ℕ
  pub third : List ℕ

abbrev pub said_as : ℕ → List ℕ → List ℕ → List ℕ → Said
said_as count first second third = record { count = count; first = first; second = second; third = third }

unfoldable pub said : Words → Said
said words.Zero = said_as 0 [] [] []
said (words.One one) = said_as 1 one.now [] []
said (words.Two one two) = said_as 2 one.now two.now []
said (words.Three one two three) = said_as 3 one.now two.now three.now
said (words.More one two three) = said_as 4 one.now two.now three.now

abbrev pub request : Command → Request
request c =
    record { verb = c.verb; words = (said c.words).count; first = (said c.words).first; second = (said c.words).second; third = (said c.words).third }

-- what the words of a text say
unfoldable pub said_of : List ℕ → Said
said_of text =
    let behind_one = behind_word text in
    let behind_two = behind_word behind_one in
    let behind_three = behind_word behind_two in
    said_as (counted (word_of text) + counted (word_of behind_one) + counted (word_of behind_two) + counted (word_of behind_three)) (word_of text) (word_of behind_one) (word_of behind_two)

-- the command that a line is, with the words that follow its first, of which at most four count
unfoldable pub command_after : List ℕ → List ℕ → List ℕ → List ℕ → List ℕ → Request
command_after name one two three four =
    record { verb = verb_of_letter (line_verb name); words = counted one + counted two + counted three + counted four; first = one; second = two; third = three }

unfoldable pub command_of : List ℕ → Request
command_of line =
    let behind_name = behind_word line in
    let behind_one = behind_word behind_name in
    let behind_two = behind_word behind_one in
    let behind_three = behind_word behind_two in
    command_after (word_of line) (word_of behind_name) (word_of behind_one) (word_of behind_two) (word_of behind_three)
