-- bg::picture::point_color meets its contract: the test is that of point_color, and the pixel is the one at the point wrapped.
-- Assumes nothing.
use mathlib.Core.Path.{sym}
use borrow.Author.Rules.{rules}
use Rattle.bg_points.proofs.Points.{point_color_hidden, point_color_shown}
use Rattle.bg.proofs.picture.point_color.Goals as goal

pub returns-then-not-shows : goal.returns-then-not-shows
returns-then-not-shows g c = rw (sym c.viewport-viewport.ensures.0) (search (rules, point_color_hidden))

pub returns : goal.returns
returns g c = rw (sym c.viewport-viewport.ensures.0) (search (rules, point_color_shown))
