-- What one turn of a loop over the lines does, in the words of the code: each law's premises are what a place knows.
-- Assumes nothing.
use Rattle.std.proofs.Common.{◌≡◌, ℕ, ◌-◌, ◌<◌, ◌≤◌, true, false, List, ◌∷◌, length, take, drop, ap, ◌∙◌}
use Rattle.idmap.specs.declared.Line.{Line}
use Rattle.idmap.specs.declared.LookedUp.{LookedUp}
use Rattle.idmap.specs.Line.{in_range, line_words, line_of, lines_by}
use Rattle.idmap.specs.Lookup.{held_by, held_by_none, lookup_of, out, back}
use Rattle.prelude.proofs.Lists.{rest_is}
use Rattle.idmap.proofs.Words.{four, lines_next, lines_none, lines_flip}

-- lookup: a turn over the words that are left
module _ (from to : ℕ) (left : List ℕ) (id : ℕ) where
  pub lookup_none : length left < line_words → lookup_of (lines_by from to left) id ≡ held_by_none
  unfolding lookup_of
  lookup_none h = rw (lines_none from to left h)

  module _ (more : line_words ≤ length left) (l : Line) (read : l ≡ line_of from to (four left)) where
    lookup_step : lookup_of (lines_by from to left) id ≡ lookup_of (l ∷ lines_by from to (drop line_words left)) id
    lookup_step = rw (lines_next from to left more, read)

    pub lookup_hit : in_range id l.inside l.count ≡ true → lookup_of (lines_by from to left) id ≡ held_by l id
    unfolding lookup_of
    lookup_hit y = lookup_step ∙ rw y

    pub lookup_miss : in_range id l.inside l.count ≡ false
        → lookup_of (lines_by from to left) id ≡ lookup_of (lines_by from to (take (length left - line_words) (drop line_words left))) id
    unfolding lookup_of
    lookup_miss n = lookup_step ∙ rw (n, rest_is left line_words)

-- lookup_inside
module _ (from to : ℕ) (ws : List ℕ) (id : ℕ) (r : LookedUp) where
  pub translated_back : r ≡ lookup_of (lines_by to from ws) id → r.translated ≡ back (lines_by from to ws) id
  unfolding out
  translated_back e = ap (λ (a : LookedUp). a.translated) (rw (lines_flip from to ws) at e)
