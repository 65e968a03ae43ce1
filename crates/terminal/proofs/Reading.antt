-- A line as far as it is read: byte by byte, each kept behind those before it.
-- Assumes nothing.
use Prim.Native.Nat.{ℕ, ◌+◌, ◌≤◌, ◌<◌}
use mathlib.Core.Path.{◌≡◌, refl, sym, ap, subst, ◌∙◌}
use mathlib.Core.Bool.{Bool, true, false, not}
use mathlib.Core.List.{List, [], ◌∷◌, ◌++◌, append_assoc, append-nil}
use native.Mathlib.Numerals.{add-one}
use native.Mathlib.Omega.{arith}
use Rattle.std.proofs.Common.{Option, Some, None, MatchOption}
use borrow.Author.Tests.{ltb-true, ne_eqb}
use lib.Dec.{ltb, eqb}
use lib.ListN.{length, take, length-take, drop_of_length-le}
use lib.Seq.{drop-cons, get_or-take}
use Rattle.sudoku.specs.Tests.{pick}
use Rattle.sudoku.proofs.Walks.{by_test, both_left, both_right, both_true}
use Rattle.terminal.specs.declared.input.Input.{Input}
use Rattle.terminal.specs.declared.input.Line.{Line}
use Rattle.terminal.specs.Input.{unused, Within, taken_at, behind, came, ByteTaken, line_bytes, empty_line, with_byte, with_bytes, is_line, line_end, Keeps, LineRead}

-- ---- a byte of those that were read

-- the unused bytes are the one that comes next, where there is one, and those behind it
pub taken_all : (i : Input) → Within i → unused i ≡ came (taken_at i) ++ unused (behind i)
unfolding unused taken_at behind came pick
taken_all i h =
    by_test (ltb i.at i.end)
    (λ t.
    let below : i.at < i.end = ltb-true i.at i.end t in
    let long : i.at < length (take i.end i.buffer) = simp length-take (omega arith) in
    drop-cons (take i.end i.buffer) i.at 0 long ∙ simp (t, add-one, get_or-take))
    (λ t. simp t)

pub end_stays : (i : Input) → Within i → Within (behind i)
unfolding behind pick
end_stays i h =
    by_test (ltb i.at i.end)
    (λ t. subst (λ (b : Bool). Within (pick b (record i { at = i.at + 1 }) i)) (sym t) h)
    (λ t. subst (λ (b : Bool). Within (pick b (record i { at = i.at + 1 }) i)) (sym t) h)

pub all_used : (i : Input) → i.end ≤ i.at → unused i ≡ []
unfolding unused
all_used i h = drop_of_length-le (take i.end i.buffer) {i = i.at} (simp length-take (omega arith))

-- ---- a byte more of a line

pub bytes_more : (l : Line) (bytes : List ℕ) (byte : ℕ) → with_byte (with_bytes l bytes) byte ≡ with_bytes l (bytes ++ (byte ∷ []))
unfolding with_bytes
bytes_more l [] byte = refl
bytes_more l (b ∷ bytes) byte = bytes_more (with_byte l b) bytes byte

-- a line with a byte is not empty
byte_counts : (l : Line) (byte : ℕ) → 1 ≤ (with_byte l byte).length
unfolding with_byte pick
byte_counts l byte = by_test (ltb l.length line_bytes) (λ t. simp t (omega arith)) (λ t. simp t (omega arith))

bytes_count : (l : Line) (bytes : List ℕ) → 1 ≤ l.length → 1 ≤ (with_bytes l bytes).length
unfolding with_bytes
bytes_count l [] h = h
bytes_count l (byte ∷ bytes) h = bytes_count (with_byte l byte) bytes (byte_counts l byte)

pub no_bytes : (bytes : List ℕ) → (with_bytes empty_line bytes).length ≡ 0 → bytes ≡ []
unfolding with_bytes
no_bytes [] n = refl
no_bytes (byte ∷ bytes) n =
    absurd (omega (arith, n, bytes_count (with_byte empty_line byte) bytes (byte_counts empty_line byte)))

pub line_more : (bytes : List ℕ) (byte : ℕ) → is_line bytes ≡ true → (byte ≡ 10 → ⊥) → is_line (bytes ++ (byte ∷ [])) ≡ true
unfolding is_line
line_more [] byte h n = both_true _ _ (ap not (ne_eqb byte 10 n)) refl
line_more (b ∷ bytes) byte h n =
    both_true _ _ (both_left (not (eqb b 10)) (is_line bytes) h)
    (line_more bytes byte (both_right (not (eqb b 10)) (is_line bytes) h) n)

-- ---- a byte that is taken

module _ (before after : Input) (byte : Option ℕ) where
  -- from what was read before
  pub from_buffer : byte ≡ taken_at before → after ≡ behind before → ByteTaken before after byte
  from_buffer e f =
      record {
        anew = [];
        all = λ h.
            append-nil (unused before)
            ∙ taken_all before h
            ∙ (λ i. came (sym e i) ++ unused (sym f i));
        within = λ h. subst Within (sym f) (end_stays before h);
      }

  -- from what is read anew
  pub from_input : (read : Input) → before.end ≤ before.at → Within read → byte ≡ taken_at read → after ≡ behind read → ByteTaken before after byte
  from_input read used fits e f =
      record {
        anew = unused read;
        all = λ h.
            ap (λ (l : List ℕ). l ++ unused read) (all_used before used)
            ∙ taken_all read fits
            ∙ (λ i. came (sym e i) ++ unused (sym f i));
        within = λ h. subst Within (sym f) (end_stays read fits);
      }

-- ---- what is read so far: the bytes of the line, and what of the input is not used behind the last byte taken

pub record Going (before now : Input) (l : Line) : Type 0 where
  pub bytes : List ℕ
  pub line : is_line bytes ≡ true
  pub anew : List ℕ
  pub all : Within before → unused before ++ anew ≡ bytes ++ unused now
  pub within : Within before → Within now
  pub keeps : Keeps bytes l

pub nothing_read : (i : Input) (l : Line) → l ≡ empty_line → Going i i l
unfolding with_bytes is_line empty_line
nothing_read i l e =
    record {
      bytes = [];
      line = refl;
      anew = [];
      all = λ h. append-nil (unused i);
      within = λ h. h;
      keeps = record { keeps = e; fits = omega (arith, ap (λ (k : Line). k.length) e) };
    }

module _ (before now : Input) (l : Line) (g : Going before now l) where
  -- the turns are used up
  pub stops : LineRead before now (Some l)
  unfolding line_end pick
  stops =
      record {
        bytes = g.bytes;
        line = g.line;
        closed = false;
        anew = g.anew;
        all = g.all;
        within = g.within;
        kept = g.keeps;
      }

  module _ (after : Input) (next : Option ℕ) (t : ByteTaken now after next) where
    -- none is lost with one byte more
    all_next : Within before → unused before ++ (g.anew ++ t.anew) ≡ g.bytes ++ (came next ++ unused after)
    all_next h =
        sym (append_assoc (unused before) g.anew t.anew)
        ∙ ap (λ (x : List ℕ). x ++ t.anew) (g.all h)
        ∙ append_assoc g.bytes (unused now) t.anew
        ∙ ap (λ (x : List ℕ). g.bytes ++ x) (t.all (g.within h))

    -- the line ends, or the input
    ends : (closed : Bool) → came next ≡ line_end closed → (got : Option Line) → MatchOption got (g.bytes ≡ []) (Keeps g.bytes) → LineRead before after got
    ends closed c got k =
        record {
          bytes = g.bytes;
          line = g.line;
          closed = closed;
          anew = g.anew ++ t.anew;
          all = λ h. all_next h ∙ ap (λ (x : List ℕ). g.bytes ++ (x ++ unused after)) c;
          within = λ h. t.within (g.within h);
          kept = k;
        }

    pub none_left : next ≡ None → l.length ≡ 0 → LineRead before after None
    unfolding came line_end pick
    none_left e n =
        ends false (ap came e) None (no_bytes g.bytes (sym (ap (λ (k : Line). k.length) g.keeps.keeps) ∙ n))

    pub input_ends : next ≡ None → LineRead before after (Some l)
    unfolding came line_end pick
    input_ends e = ends false (ap came e) (Some l) g.keeps

    pub line_ends : next ≡ Some 10 → LineRead before after (Some l)
    unfolding came line_end pick
    line_ends e = ends true (ap came e) (Some l) g.keeps

    -- the line goes on
    pub goes_on : (byte : ℕ) → next ≡ Some byte → (byte ≡ 10 → ⊥) → (more : Line) → more ≡ with_byte l byte → more.length ≤ line_bytes + 1 → Going before after more
    unfolding came
    goes_on byte e n more k f =
        record {
          bytes = g.bytes ++ (byte ∷ []);
          line = line_more g.bytes byte g.line n;
          anew = g.anew ++ t.anew;
          all = λ h.
              all_next h
              ∙ ap (λ (x : Option ℕ). g.bytes ++ (came x ++ unused after)) e
              ∙ sym (append_assoc g.bytes (byte ∷ []) (unused after));
          within = λ h. t.within (g.within h);
          keeps =
              record {
                keeps = k ∙ ap (λ (x : Line). with_byte x byte) g.keeps.keeps ∙ bytes_more empty_line g.bytes byte;
                fits = f;
              };
        }
