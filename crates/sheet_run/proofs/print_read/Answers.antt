-- `sheet_run::print_read` meets its contract: the listing of what the layout answered, over the first places and gaps.
use Rattle.std.proofs.Common.{◌≡◌, length, arith}
use Rattle.sheet_run.proofs.Runs.{answered_most, within_read}
use Rattle.sheet_run.proofs.print_read.Goals as goal

pub print-requires : goal.print-requires
print-requires c =
    let p = c.args.p.now in
    let laid = c.lay_out_read-answer in
    let nums = laid.new.place_num in
    let dens = laid.new.place_den in
    let told = c.lists_of-lists.ensures in
    -- they are as many as were lent
    let nums_long : length nums ≡ 48 = omega arith in
    let dens_long : length dens ≡ 48 = omega arith in
    let wants : length p.wanted ≡ 48 = omega arith in
    let lefts : length p.left ≡ 192 = omega arith in
    let rights : length p.right ≡ 192 = omega arith in
    let distances : length p.distance ≡ 192 = omega arith in
    rw (told.left, told.right, told.distance) (
      within_read p nums dens c.requires nums_long dens_long lefts rights distances,
      answered_most p laid.result nums dens laid.ensures c.requires wants,
    )
