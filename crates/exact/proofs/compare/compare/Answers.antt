-- The whole parts decide where they differ, and else the rests over a common denominator,
-- whose products 64 bits hold.
use Rattle.std.proofs.Common.{sym, ◌∙◌, ap, ap₂, w64, to_z, of_z}
use Rattle.std.specs.Ordering.{int_cmp}
use Rattle.exact.proofs.Ordering.{quot_plain, quot_kept, product_asks, product_kept, order_by_quot, order_by_rem}
use Rattle.exact.proofs.compare.compare.Goals as goal

pub returns-then-p-q : goal.returns-then-p-q
returns-then-p-q c =
    c.cmp.ensures
    ∙ ap₂ int_cmp (quot_kept c.args.a c.requires.0) (quot_kept c.args.b c.requires.1)
    ∙ order_by_quot c.args.a c.args.b c.requires.0 c.requires.1
    (λ e. c.if-p-q.true (ap (of_z w64) (quot_plain c.args.a c.requires.0 ∙ e ∙ sym (quot_plain c.args.b c.requires.1))))

pub overflow_mul-x : goal.overflow_mul-x
overflow_mul-x c = product_asks c.args.a c.args.b c.requires.0 c.requires.1

pub overflow_mul-y : goal.overflow_mul-y
overflow_mul-y c = product_asks c.args.b c.args.a c.requires.1 c.requires.0

pub returns : goal.returns
returns c =
    c.cmp-2.ensures
    ∙ ap₂ int_cmp (product_kept c.args.a c.args.b c.requires.0 c.requires.1) (product_kept c.args.b c.args.a c.requires.1 c.requires.0)
    ∙ order_by_rem c.args.a c.args.b c.requires.0 c.requires.1
    (sym (quot_kept c.args.a c.requires.0) ∙ ap (to_z w64) c.if-p-q.false ∙ quot_kept c.args.b c.requires.1)
