use Rattle.std.proofs.Common.{◌≡◌, ◌+◌, ◌*◌, ◌∙◌, List, ℕ, length, get_or, take, sym, ap, add-one, arith}
use Rattle.std.proofs.Math.Seq.{sets}
use Rattle.word.specs.Word.{put_word}
use Rattle.route.specs.Record.{words_bytes}
use Rattle.records.proofs.Stored.{word_more}
use Rattle.records.proofs.Record.write.Goals as goal

pub loop-k-preserved : goal.loop-k-preserved
loop-k-preserved c =
    let ws = c.args.self.words in
    let out = c.args.out.now in
    let at = c.args.i * 32 in
    let k = c.loop-k.k in
    let n : length ws ≡ 8 = omega arith in
    c.write.ensures
    ∙ ap (λ (x : List ℕ). put_word x (at + k * 4) (get_or ws k 0)) c.loop-k.invariant
    ∙ word_more out ws at k (omega arith)
    ∙ ap (λ (x : ℕ). sets out at (words_bytes (take x ws))) (sym (add-one k))
