use Rattle.std.proofs.Common.{◌≡◌, ◌-◌, ◌<◌, ◌≤◌, ◌∙◌, ap, arith, length, drop, get_or}
use Rattle.std.proofs.lemmas.List.{get_or_read}
use Rattle.rr_exec.proofs.Pieces.{inside_of, lowest_fits, length_select, piece_absent, piece_written, place_fits, place_is}
use Rattle.rr_exec.proofs.writes.write_piece.Goals as goal

pub overflow_sub-place : goal.overflow_sub-place
overflow_sub-place c =
    let i = inside_of (length c.args.values.now.items) c.range-low.result.0 c.range-low.result.1 c.args.piece.now c.range-low.ensures.covered c.if-low-high.true c.requires.fits in
    let t : c.range-low.result.0 ≤ 128 = omega (arith, i.top) in
    let k : c.args.piece.now.count < 4294967296 = omega arith in
    lowest_fits c.range-low.result.0 c.args.piece.now.count i.offset c.args.piece.now.from t k i.few i.lowest

pub overflow_add-place : goal.overflow_add-place
overflow_add-place c =
    let i = inside_of (length c.args.values.now.items) c.range-low.result.0 c.range-low.result.1 c.args.piece.now c.range-low.ensures.covered c.if-low-high.true c.requires.fits in
    let t : c.range-low.result.0 ≤ 128 = omega (arith, i.top) in
    let k : c.args.piece.now.count < 4294967296 = omega arith in
    place_fits c.range-low.result.0 c.args.piece.now.count i.offset c.args.from c.args.piece.now.from t c.requires.from k i.few i.lowest

pub select-part-requires-clause-high : goal.select-part-requires-clause-high
select-part-requires-clause-high c =
    let i = inside_of (length c.args.values.now.items) c.range-low.result.0 c.range-low.result.1 c.args.piece.now c.range-low.ensures.covered c.if-low-high.true c.requires.fits in
    omega (arith, i.top)

pub index-requires : goal.index-requires
index-requires c =
    let i = inside_of (length c.args.values.now.items) c.range-low.result.0 c.range-low.result.1 c.args.piece.now c.range-low.ensures.covered c.if-low-high.true c.requires.fits in
    omega (arith, i.signal, c.args.values.now.ok.0)

pub merged-requires : goal.merged-requires
merged-requires c =
    let i = inside_of (length c.args.values.now.items) c.range-low.result.0 c.range-low.result.1 c.args.piece.now c.range-low.ensures.covered c.if-low-high.true c.requires.fits in
    let e : length c.select-part.result ≡ c.range-low.result.1 - c.range-low.result.0 = ap length c.select-part.ensures ∙ length_select c.args.bits _ _ in
    omega (arith, i.top)

pub index_mut-requires : goal.index_mut-requires
index_mut-requires c =
    let i = inside_of (length c.args.values.now.items) c.range-low.result.0 c.range-low.result.1 c.args.piece.now c.range-low.ensures.covered c.if-low-high.true c.requires.fits in
    omega (arith, i.signal, c.args.values.now.ok.0)

pub returns-then-low-high-clause-env : goal.returns-then-low-high-clause-env
returns-then-low-high-clause-env c =
    let i = inside_of (length c.args.values.now.items) c.range-low.result.0 c.range-low.result.1 c.args.piece.now c.range-low.ensures.covered c.if-low-high.true c.requires.fits in
    let t : c.range-low.result.0 ≤ 128 = omega (arith, i.top) in
    let k : c.args.piece.now.count < 4294967296 = omega arith in
    let s : c.args.piece.now.signal < length c.args.values.now.items = omega (arith, i.signal) in
    let o : c.index.result.now ≡ get_or c.args.values.now.items c.args.piece.now.signal 0 = get_or_read c.args.values.now.items _ _ s c.index.ensures 0 in
    piece_written c.args.values.now.items c.args.piece.now c.args.bits c.select-part.result c.args.from c.range-low.result.0 c.range-low.result.1 c.merged.result _ c.range-low.ensures.covered c.if-low-high.true
    (place_is c.range-low.result.0 c.args.piece.now.count i.offset c.args.from c.args.piece.now.from t c.requires.from k i.few i.lowest)
    c.select-part.ensures (λ q. rw o at (c.merged.ensures q)) s

pub returns-else-low-high-clause-env : goal.returns-else-low-high-clause-env
returns-else-low-high-clause-env c = piece_absent c.args.values.now.items c.args.piece.now (drop c.args.from c.args.bits) c.range-low.result.0 c.range-low.result.1 c.range-low.ensures.covered c.if-low-high.false
