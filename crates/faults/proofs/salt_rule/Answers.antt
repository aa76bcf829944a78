use Rattle.std.proofs.Common.{◌≡◌, sym, ap, ◌∙◌, ◌&&◌, drop, arith}
use Rattle.lists.specs.PartsLaws.{tail_part}
use borrow.Author.Tests.{eq-eqb, ne_eqb, lt-leb}
use lib.Dec.{eqb, leb}
use Rattle.trees.specs.Rules.{salt_type}
use Rattle.faults.proofs.Salt.{later, keeps, keeps_salted, short_salt, whole_salt, no_salt, kept, not_kept}
use Rattle.faults.proofs.salt_rule.Goals as goal
use Rattle.faults.proofs.salt_rule.Goals.{else-salt-via-then-salt+else-from-ne-SALT_BYTES, else-salt-via-else-salt}

pub returns-then-from-ne-SALT_BYTES : goal.returns-then-from-ne-SALT_BYTES
returns-then-from-ne-SALT_BYTES c =
    let a = c.args in
    λ gs p q.
    sym (short_salt a.kinds.now a.sizes.now c.from-first.ensures c.from.ensures c.if-salt.true (ne_eqb _ _ c.if-from-ne-SALT_BYTES.true))
    ∙ keeps_salted gs c.requires.0 p q

pub returns-then-first-le-SALT_TYPE : goal.returns-then-first-le-SALT_TYPE
returns-then-first-le-SALT_TYPE c =
    let a = c.args in
    let first = c.from-first in
    let whole : keeps a.kinds.now a.sizes.now ≡ later (eqb first.result salt_type) (drop 1 a.kinds.now) && leb first.result salt_type =
    elim c.else-salt.branch [
      | else-salt-via-then-salt+else-from-ne-SALT_BYTES w ↦
          whole_salt a.kinds.now a.sizes.now first.ensures w.from.ensures w.if-salt.true (eq-eqb _ _ w.if-from-ne-SALT_BYTES.false)
      | else-salt-via-else-salt w ↦ no_salt a.kinds.now a.sizes.now first.ensures w.if-salt.false
    ] in
    λ gs p q. c.behind.ensures ∙ ap (later (eqb first.result salt_type)) (tail_part a.kinds.now 1) ∙ sym (whole ∙ kept _ first.result c.if-first-le-SALT_TYPE.true) ∙ keeps_salted gs c.requires.0 p q

pub returns-else-first-le-SALT_TYPE : goal.returns-else-first-le-SALT_TYPE
returns-else-first-le-SALT_TYPE c =
    let a = c.args in
    let high = c.if-first-le-SALT_TYPE.false in
    λ gs p q.
    lt-leb _ _ high
    ∙ sym (no_salt a.kinds.now a.sizes.now c.from-first.ensures (λ e. omega arith) ∙ not_kept _ c.from-first.result high)
    ∙ keeps_salted gs c.requires.0 p q
