use Rattle.script_maker.proofs.GivingLaws.{gives_closing, gives_drawn, gives_none, gives_opening}
use Rattle.script_maker.proofs.lines.ScriptLines.put_next.Goals as goal

pub returns-then-self-lt-OPENING_LINES : goal.returns-then-self-lt-OPENING_LINES
returns-then-self-lt-OPENING_LINES c =
    let s = c.self.inside in
    rw (← c.self.view_is) (gives_opening s.opened s.coming s.number s.state s.closed c.opening_line.result.now _ _ c.opening_line.ensures c.in_ok-extend_from_slice.ensures.items)

pub returns-then-self-gt0 : goal.returns-then-self-gt0
returns-then-self-gt0 c =
    let s = c.self.inside in
    rw (← c.self.view_is) (gives_drawn s.opened s.coming s.number s.state s.closed _ _ _ c.if-self-lt-OPENING_LINES.false c.if-self-gt0.true c.in_ok-self-inside.ensures.state c.in_ok-self-inside.ensures.line)

pub returns-then-self-lt-CLOSING_LINES : goal.returns-then-self-lt-CLOSING_LINES
returns-then-self-lt-CLOSING_LINES c =
    let s = c.self.inside in
    rw (← c.self.view_is) (gives_closing s.opened s.coming s.number s.state s.closed c.closing_line.result.now _ _ c.if-self-lt-OPENING_LINES.false c.if-self-gt0.false c.closing_line.ensures c.in_ok-extend_from_slice-2.ensures.items)

pub returns : goal.returns
returns c =
    let s = c.self.inside in
    rw (← c.self.view_is) (gives_none s.opened s.coming s.number s.state s.closed _ c.if-self-lt-OPENING_LINES.false c.if-self-gt0.false c.if-self-lt-CLOSING_LINES.false)
