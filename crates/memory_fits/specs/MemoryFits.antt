-- Which memories between frames are accepted. Definitions only.
use Rattle.std.specs.Prelude.{Bool, true, ◌&&◌, List, ℕ, Float, Option, None, Some}
use Rattle.std.specs.Float.{binary32}
use Rattle.std.specs.Float.Ieee.{neg, of_bits}
use Rattle.lists.specs.Every.{every_to}
use Rattle.lists.specs.Refusals.{first_refusal}
use Rattle.game.specs.declared.Ball.{Ball}
use Rattle.refusals.specs.Refusals.{within, is_coordinate, ball_fits, number_fits, restart_fits, five}
use Rattle.remembered.specs.declared.Remembered.{Remembered}
use Rattle.remembered.specs.Remembered.{remembered_at}
use Rattle.game.specs.declared.Restart.{Restart}

-- 256
abbrev pub two_hundred_fifty_six : Float
two_hundred_fifty_six = of_bits binary32 0x4380_0000

-- ---- 2: an allowance that is there is at most 256 either way
abbrev pub allowance_fits : Option Float → Bool
allowance_fits None = true
allowance_fits (Some a) = within (neg two_hundred_fifty_six) a two_hundred_fifty_six

-- those of a side
unfoldable pub allowances_fit : List Remembered → Bool
unfolding every_to
allowances_fit l = every_to 20 (λ i. allowance_fits (remembered_at l i).return_allowance)

-- ---- 3: the ball, and the kick place of a restart that is in effect
abbrev pub kick_fits : Option Restart → Bool
kick_fits None = true
kick_fits (Some r) = is_coordinate r.kick_x && is_coordinate r.kick_y

-- ---- 4: the kicking player, the kicker of the restart, and who touches the ball
abbrev pub memory_numbers_fit : Option ℕ → Option Restart → Option ℕ → Bool
memory_numbers_fit kicking restart toucher = number_fits kicking && restart_fits restart && number_fits toucher

-- the number of the refusal, or 0 for none
unfoldable pub memory_refusal : List Remembered → List Remembered → Ball → Option Restart → Option ℕ → Option ℕ → ℕ
unfolding allowances_fit
memory_refusal home away ball restart kicking toucher =
    first_refusal (five true (allowances_fit home && allowances_fit away) (ball_fits ball && kick_fits restart) (memory_numbers_fit kicking restart toucher) true)
