-- Each of the ten blocks holds the lines of its part of the decision.
use Rattle.std.proofs.Common.{◌≡◌, ℕ, ◌<◌, get_or}
use lib.ListN.{replicate, get_or-replicate}
use Rattle.lists.specs.Gather.{flat_to}
use Rattle.sheet.specs.Rows.{from_one, none, ball_rows, rows_of}
use Rattle.sheet.specs.Blocks.{all_rows}
use Rattle.sheet.proofs.BlockLaws.{ranks_told}
use Rattle.sheet.proofs.blocks.blocks_of.Goals as goal

plain : (k : ℕ) → k < 20 → get_or (replicate 20 0) k 0 ≡ none k
plain k h = get_or-replicate 20 k 0 0 h

pub returns-clause-place_value : goal.returns-clause-place_value
unfolding flat_to all_rows rows_of ball_rows
returns-clause-place_value c = let home-excess = c.list_block-home_excess.ensures from_one ranks_told in
    let away-excess = c.list_block-away_excess.ensures from_one ranks_told in
    let home-leaving = c.list_block-home_leaving.ensures none plain in
    let away-leaving = c.list_block-away_leaving.ensures none plain in
    let home-moved = c.list_block-home_moved.ensures none plain in
    let away-moved = c.list_block-away_moved.ensures none plain in
    simp (c.verdict_block-home_verdicts.ensures.1, c.verdict_block-away_verdicts.ensures.1, home-excess.1, away-excess.1, c.kicker_block-kicker.ensures.1, home-leaving.1, away-leaving.1, home-moved.1, away-moved.1, c.block_if-ball.ensures.1, c.judgment_code-code.ensures, c.judgment_side-judged.ensures)

pub returns-clause-few : goal.returns-clause-few
returns-clause-few c = (
  c.verdict_block-home_verdicts.ensures.0,
  (
    c.verdict_block-away_verdicts.ensures.0,
    (
      (c.list_block-home_excess.ensures from_one ranks_told).0,
      (
        (c.list_block-away_excess.ensures from_one ranks_told).0,
        (
          c.kicker_block-kicker.ensures.0,
          (
            (c.list_block-home_leaving.ensures none plain).0,
            (
              (c.list_block-away_leaving.ensures none plain).0,
              (
                (c.list_block-home_moved.ensures none plain).0,
                (
                  (c.list_block-away_moved.ensures none plain).0,
                  (c.block_if-ball.ensures.0, tt),
                ),
              ),
            ),
          ),
        ),
      ),
    ),
  ),
)
