-- The twelve positions of document 01 hold. Each row computes
-- but k, which goes by induction over its turns, in FullJournal.
-- E and L are opened once: the rows that play them start from the fresh board that opening returns.
-- Assumes nothing.
use mathlib.Core.Path.{◌≡◌, refl, sym, ap, subst}
use Rattle.puzzle.specs.Givens.{triples}
use Rattle.board.specs.Open.{opened_fresh}
use Rattle.calls.specs.Session.{Session, started}
use Rattle.demands.specs.Positions.{solution_g, givens_e, givens_l, E, L, Openings, RowA, RowB, RowC, RowD, RowE, RowF, RowG, RowH, RowI, RowJ, RowK, RowL, Positions}
use Rattle.demands.proofs.Computing.{computing}
use Rattle.demands.proofs.FullJournal.{row_k}

openings : Openings
unfolding computing
openings = record { E_opens = refl; L_opens = refl }

-- the fresh boards of E and L with their memory
abbrev fresh_e : Session
fresh_e = started (opened_fresh (triples givens_e) solution_g)

abbrev fresh_l : Session
fresh_l = started (opened_fresh (triples givens_l) solution_g)

E_fresh : fresh_e ≡ E
unfolding E
E_fresh = ap started (sym openings.E_opens)

L_fresh : fresh_l ≡ L
unfolding L
L_fresh = ap started (sym openings.L_opens)

row_a : RowA fresh_l
unfolding computing
row_a = record { answered = refl; solved = refl }

row_b : RowB fresh_l
unfolding computing
row_b = record { answered = refl; unsolved = refl; conflicting = refl; verdict = refl; stored = refl }

row_c : RowC fresh_e
unfolding computing
row_c = record { answered = refl; before = refl }

row_d : RowD fresh_e
unfolding computing
row_d = record { answered = refl }

row_e : RowE fresh_e
unfolding computing
row_e = record { answered = refl; mask = refl; struck = refl; back = refl }

row_f : RowF fresh_e
unfolding computing
row_f = record { answered = refl; written = refl }

row_g : RowG
unfolding computing
row_g = record { fresh = refl; nothing = refl }

row_h : RowH
unfolding computing
row_h = record { standing_0 = refl; standing_1024 = refl; standing_1025 = refl }

row_i : RowI
unfolding computing
row_i = record { right_1 = refl; right_0 = refl; wrong_1 = refl; stored = refl }

row_j : RowJ
unfolding computing
row_j = record { undone_1 = refl; then_7 = refl }

row_l : RowL
unfolding computing
row_l = record { eighty = openings.L_opens; all = refl }

pub positions : Positions
positions =
    record {
      openings = openings;
      a = subst RowA L_fresh row_a;
      b = subst RowB L_fresh row_b;
      c = subst RowC E_fresh row_c;
      d = subst RowD E_fresh row_d;
      e = subst RowE E_fresh row_e;
      f = subst RowF E_fresh row_f;
      g = row_g;
      h = row_h;
      i = row_i;
      j = row_j;
      k = subst RowK E_fresh row_k;
      l = row_l;
    }
