-- What the acceptor accepts, the grammar derives.
use mathlib.Core.Path.{◌≡◌, refl, subst}
use mathlib.Core.List.{List, [], ◌∷◌, ◌++◌}
use Rattle.isa.specs.declared.kinds.Arithmetic.{Arithmetic}
use Rattle.isa.specs.declared.kinds.Arithmetic.TheVariants.{Add, Sub, Mul, Lt}
use Rattle.grammar.specs.declared.mark.Bracket.{Bracket}
use Rattle.grammar.specs.declared.mark.Bracket.TheVariants.{Round, Square}
use Rattle.grammar.specs.declared.mark.Mark.{Mark}
use Rattle.grammar.specs.declared.mark.Mark.TheVariants.{Let, Put, Repeat, End, LineEnd, Number, Variable, Operator, Open, Close, Comma, Equals}
use Rattle.grammar.specs.declared.variable.Variable.{Variable as Letter}
use Rattle.language.specs.Plans.{Tree, number, variable, node, Plan, done, assign, store, again}
use Rattle.grammar.specs.Grammar.{expr_level, sum_level, term_level, factor_level, Derives, a_number, a_variable, in_parens, in_brackets, one_factor, times, one_term, plus, minus, one_sum, less, Lines, no_line, blank_line, let_line, put_line, repeat_lines, IsPlan}
use Rattle.grammar.proofs.Acceptor.{plain, Base, top, body, Left, nothing, below, Hole, of_let, of_address, of_value, of_count, inside, State, line, naming, named, over, want, have, full, Move, stuck, to, add, value, bracketed, begin, ending, lined, parted, closed, join, at-line, at_naming, at_named, at-over, at_want, at_full, at_have, step, then, run, start}

boxed : (b : Bracket) {s r : List Mark} {t : Tree} → Derives expr_level s (Close b ∷ r) t → Derives factor_level (Open b ∷ s) r (bracketed b t)
boxed Round d = in_parens d
boxed Square d = in_brackets d

-- W begins with what was read; g is the statement that was read last. Whatever lines come after m complete what K holds.
abbrev pub BaseOk : List Mark → Base → (Plan → Plan) → List Mark → Type 0
BaseOk W (top f) g m = (r : List Mark) (p : Plan) → Lines m r p → Lines W r (f (g p))
BaseOk W (body f e K) g m = (n : List Mark) (p : Plan) → Lines m (End ∷ LineEnd ∷ n) p → BaseOk W K (again e (f (g p))) n

added : (W : List Mark) (K : Base) (g : Plan → Plan) (m : List Mark) → BaseOk W K g m → BaseOk W (add g K) plain m
added W (top f) g m h = h
added W (body f e K) g m h = h

-- the statement g stands between n and m
grown : (W : List Mark) (K : Base) (g : Plan → Plan) (n m : List Mark) → BaseOk W K plain n → ((r : List Mark) (p : Plan) → Lines m r p → Lines n r (g p)) → BaseOk W K g m
grown W (top f) g n m h d = λ r p x. h r (g p) (d r p x)
grown W (body f e K) g n m h d = λ r p x. h r (g p) (d (End ∷ LineEnd ∷ r) p x)

abbrev pub LeftOk : Left → List Mark → List Mark → Type 0
LeftOk nothing m n = (r : List Mark) (t : Tree) → Derives sum_level n r t → Derives sum_level m r t
LeftOk (below u) m n = (r : List Mark) (t : Tree) → Derives sum_level n r t → Derives expr_level m r (node Lt u t)

-- around is what the marks from the expression's first one have to derive
pub record HaveOk (H : List Mark → Type 0) (l : Left) (S : Tree → Tree) (t : Tree) (r : List Mark) : Type 0 where
  pub m₀ : List Mark
  pub m₁ : List Mark
  pub m₂ : List Mark
  pub around : H m₀
  pub left : LeftOk l m₀ m₁
  pub sum : (r : List Mark) (u : Tree) → Derives term_level m₂ r u → Derives sum_level m₁ r (S u)
  pub term : Derives term_level m₂ r t

pub record WantOk (H : List Mark → Type 0) (l : Left) (S M : Tree → Tree) (s : List Mark) : Type 0 where
  pub m₀ : List Mark
  pub m₁ : List Mark
  pub m₂ : List Mark
  pub around : H m₀
  pub left : LeftOk l m₀ m₁
  pub sum : (r : List Mark) (u : Tree) → Derives term_level m₂ r u → Derives sum_level m₁ r (S u)
  pub term : (r : List Mark) (u : Tree) → Derives factor_level s r u → Derives term_level m₂ r (M u)

pub record FullOk (H : List Mark → Type 0) (t : Tree) (r : List Mark) : Type 0 where
  pub m₀ : List Mark
  pub around : H m₀
  pub expr : Derives expr_level m₀ r t

-- an expression that begins at m completes what the hole k stands in
abbrev pub HoleOk : List Mark → Hole → List Mark → Type 0
HoleOk W (of_let v K) m = (r : List Mark) (t : Tree) → Derives expr_level m (LineEnd ∷ r) t → BaseOk W K (assign v t) r
HoleOk W (of_address K) m = (n : List Mark) (a : Tree) → Derives expr_level m (Comma ∷ n) a → (r : List Mark) (t : Tree) → Derives expr_level n (LineEnd ∷ r) t → BaseOk W K (store a t) r
HoleOk W (of_value a K) m = (r : List Mark) (t : Tree) → Derives expr_level m (LineEnd ∷ r) t → BaseOk W K (store a t) r
HoleOk W (of_count K) m = (r : List Mark) (t : Tree) → Derives expr_level m (LineEnd ∷ r) t → BaseOk W (body plain t K) plain r
HoleOk W (inside b l S M k) m = (r : List Mark) (t : Tree) → Derives expr_level m (Close b ∷ r) t → HaveOk (HoleOk W k) l S (M (bracketed b t)) r

abbrev pub Ok : List Mark → State → List Mark → Type 0
Ok W (line K) r = BaseOk W K plain r
Ok W (naming K) r = BaseOk W K plain (Let ∷ r)
Ok W (named v K) r = BaseOk W K plain (Let ∷ Variable v ∷ r)
Ok W (over K) r = (n : List Mark) → r ≡ LineEnd ∷ n → BaseOk W K plain n
Ok W (want l S M k) r = WantOk (HoleOk W k) l S M r
Ok W (have l S t k) r = HaveOk (HoleOk W k) l S t r
Ok W (full t k) r = FullOk (HoleOk W k) t r

-- of a move that is not stuck
abbrev pub Moves : List Mark → Move → List Mark → Type 0
Moves W stuck r = Unit {0}
Moves W (to s) r = Ok W s r

begun : (W : List Mark) (k : Hole) (r : List Mark) → HoleOk W k r → Moves W (begin k) r
begun W k r h = record { m₀ = r; m₁ = r; m₂ = r; around = h; left = λ _ _ d. d; sum = λ _ _ d. one_term d; term = λ _ _ d. one_factor d }

ending_ok : (W : List Mark) (K : Base) (r : List Mark) → BaseOk W K plain (End ∷ r) → Moves W (ending K) r
ending_ok W (top f) r h = tt
ending_ok W (body f e K) r h = λ n q. added W K (again e (f done)) n (h n done (subst (λ x. Lines (End ∷ r) (End ∷ x) done) q no_line))

lined_ok : (W : List Mark) (t : Tree) (k : Hole) (r m : List Mark) → HoleOk W k m → Derives expr_level m (LineEnd ∷ r) t → Moves W (lined t k) r
lined_ok W t (of_let v K) r m h d = added W K (assign v t) r (h r t d)
lined_ok W t (of_address K) r m h d = tt
lined_ok W t (of_value a K) r m h d = added W K (store a t) r (h r t d)
lined_ok W t (of_count K) r m h d = h r t d
lined_ok W t (inside b l S M k) r m h d = tt

parted_ok : (W : List Mark) (t : Tree) (k : Hole) (r m : List Mark) → HoleOk W k m → Derives expr_level m (Comma ∷ r) t → Moves W (parted t k) r
parted_ok W t (of_let v K) r m h d = tt
parted_ok W t (of_address K) r m h d = begun W (of_value t K) r (h r t d)
parted_ok W t (of_value a K) r m h d = tt
parted_ok W t (of_count K) r m h d = tt
parted_ok W t (inside b l S M k) r m h d = tt

closed_ok : (W : List Mark) (b : Bracket) (t : Tree) (k : Hole) (r m : List Mark) → HoleOk W k m → Derives expr_level m (Close b ∷ r) t → Moves W (closed b t k) r
closed_ok W b t (of_let v K) r m h d = tt
closed_ok W b t (of_address K) r m h d = tt
closed_ok W b t (of_value a K) r m h d = tt
closed_ok W b t (of_count K) r m h d = tt
closed_ok W Round t (inside Round l S M k) r m h d = h r t d
closed_ok W Round t (inside Square l S M k) r m h d = tt
closed_ok W Square t (inside Round l S M k) r m h d = tt
closed_ok W Square t (inside Square l S M k) r m h d = h r t d

full_ok : (m : Mark) (W : List Mark) (t : Tree) (k : Hole) (r n : List Mark) → HoleOk W k n → Derives expr_level n (m ∷ r) t → Moves W (at_full m t k) r
full_ok Let W t k r q h d = tt
full_ok Put W t k r q h d = tt
full_ok Repeat W t k r q h d = tt
full_ok End W t k r q h d = tt
full_ok LineEnd W t k r q h d = lined_ok W t k r q h d
full_ok (Number n) W t k r q h d = tt
full_ok (Variable v) W t k r q h d = tt
full_ok (Operator o) W t k r q h d = tt
full_ok (Open b) W t k r q h d = tt
full_ok (Close b) W t k r q h d = closed_ok W b t k r q h d
full_ok Comma W t k r q h d = parted_ok W t k r q h d
full_ok Equals W t k r q h d = tt

valued : (l : Left) (m n r : List Mark) (t : Tree) → LeftOk l m n → Derives sum_level n r t → Derives expr_level m r (value l t)
valued nothing m n r t h d = one_sum (h r t d)
valued (below u) m n r t h d = h r t d

join_ok : (W : List Mark) (o : Arithmetic) (l : Left) (S : Tree → Tree) (t : Tree) (k : Hole) (r : List Mark) → HaveOk (HoleOk W k) l S t (Operator o ∷ r) → Moves W (join o l S t k) r
join_ok W Add l S t k r h = record { m₀ = h.m₀; m₁ = h.m₁; m₂ = r; around = h.around; left = h.left; sum = λ _ _ d. plus (h.sum (Operator Add ∷ r) t h.term) d; term = λ _ _ d. one_factor d }
join_ok W Sub l S t k r h = record { m₀ = h.m₀; m₁ = h.m₁; m₂ = r; around = h.around; left = h.left; sum = λ _ _ d. minus (h.sum (Operator Sub ∷ r) t h.term) d; term = λ _ _ d. one_factor d }
join_ok W Mul l S t k r h = record { m₀ = h.m₀; m₁ = h.m₁; m₂ = h.m₂; around = h.around; left = h.left; sum = h.sum; term = λ _ _ d. times h.term d }
join_ok W Lt nothing S t k r h = record { m₀ = h.m₀; m₁ = r; m₂ = r; around = h.around; left = λ _ _ d. less (h.left (Operator Lt ∷ r) (S t) (h.sum (Operator Lt ∷ r) t h.term)) d; sum = λ _ _ d. one_term d; term = λ _ _ d. one_factor d }
join_ok W Lt (below u) S t k r h = tt

have_ok : (m : Mark) (W : List Mark) (l : Left) (S : Tree → Tree) (t : Tree) (k : Hole) (r : List Mark) → HaveOk (HoleOk W k) l S t (m ∷ r) → Moves W (at_have m l S t k) r
have_ok Let W l S t k r h = full_ok Let W (value l (S t)) k r h.m₀ h.around (valued l h.m₀ h.m₁ (Let ∷ r) (S t) h.left (h.sum (Let ∷ r) t h.term))
have_ok Put W l S t k r h = full_ok Put W (value l (S t)) k r h.m₀ h.around (valued l h.m₀ h.m₁ (Put ∷ r) (S t) h.left (h.sum (Put ∷ r) t h.term))
have_ok Repeat W l S t k r h = full_ok Repeat W (value l (S t)) k r h.m₀ h.around (valued l h.m₀ h.m₁ (Repeat ∷ r) (S t) h.left (h.sum (Repeat ∷ r) t h.term))
have_ok End W l S t k r h = full_ok End W (value l (S t)) k r h.m₀ h.around (valued l h.m₀ h.m₁ (End ∷ r) (S t) h.left (h.sum (End ∷ r) t h.term))
have_ok LineEnd W l S t k r h = full_ok LineEnd W (value l (S t)) k r h.m₀ h.around (valued l h.m₀ h.m₁ (LineEnd ∷ r) (S t) h.left (h.sum (LineEnd ∷ r) t h.term))
have_ok (Number n) W l S t k r h = full_ok (Number n) W (value l (S t)) k r h.m₀ h.around (valued l h.m₀ h.m₁ (Number n ∷ r) (S t) h.left (h.sum (Number n ∷ r) t h.term))
have_ok (Variable v) W l S t k r h = full_ok (Variable v) W (value l (S t)) k r h.m₀ h.around (valued l h.m₀ h.m₁ (Variable v ∷ r) (S t) h.left (h.sum (Variable v ∷ r) t h.term))
have_ok (Operator o) W l S t k r h = join_ok W o l S t k r h
have_ok (Open b) W l S t k r h = full_ok (Open b) W (value l (S t)) k r h.m₀ h.around (valued l h.m₀ h.m₁ (Open b ∷ r) (S t) h.left (h.sum (Open b ∷ r) t h.term))
have_ok (Close b) W l S t k r h = full_ok (Close b) W (value l (S t)) k r h.m₀ h.around (valued l h.m₀ h.m₁ (Close b ∷ r) (S t) h.left (h.sum (Close b ∷ r) t h.term))
have_ok Comma W l S t k r h = full_ok Comma W (value l (S t)) k r h.m₀ h.around (valued l h.m₀ h.m₁ (Comma ∷ r) (S t) h.left (h.sum (Comma ∷ r) t h.term))
have_ok Equals W l S t k r h = full_ok Equals W (value l (S t)) k r h.m₀ h.around (valued l h.m₀ h.m₁ (Equals ∷ r) (S t) h.left (h.sum (Equals ∷ r) t h.term))

want_ok : (m : Mark) (W : List Mark) (l : Left) (S M : Tree → Tree) (k : Hole) (r : List Mark) → WantOk (HoleOk W k) l S M (m ∷ r) → Moves W (at_want m l S M k) r
want_ok Let W l S M k r h = tt
want_ok Put W l S M k r h = tt
want_ok Repeat W l S M k r h = tt
want_ok End W l S M k r h = tt
want_ok LineEnd W l S M k r h = tt
want_ok (Number n) W l S M k r h = record { m₀ = h.m₀; m₁ = h.m₁; m₂ = h.m₂; around = h.around; left = h.left; sum = h.sum; term = h.term r (number n) a_number }
want_ok (Variable v) W l S M k r h = record { m₀ = h.m₀; m₁ = h.m₁; m₂ = h.m₂; around = h.around; left = h.left; sum = h.sum; term = h.term r (variable v.number) a_variable }
want_ok (Operator o) W l S M k r h = tt
want_ok (Open b) W l S M k r h = begun W (inside b l S M k) r λ n t d. record { m₀ = h.m₀; m₁ = h.m₁; m₂ = h.m₂; around = h.around; left = h.left; sum = h.sum; term = h.term n (bracketed b t) (boxed b d) }
want_ok (Close b) W l S M k r h = tt
want_ok Comma W l S M k r h = tt
want_ok Equals W l S M k r h = tt

line_ok : (m : Mark) (W : List Mark) (K : Base) (r : List Mark) → BaseOk W K plain (m ∷ r) → Moves W (at-line m K) r
line_ok Let W K r h = h
line_ok Put W K r h = begun W (of_address K) r λ n a d r' t f. grown W K (store a t) (Put ∷ r) r' h λ _ _ x. put_line d f x
line_ok Repeat W K r h = begun W (of_count K) r λ n t d n' b x. grown W K (again t b) (Repeat ∷ r) n' h λ _ _ y. repeat_lines d x y
line_ok End W K r h = ending_ok W K r h
line_ok LineEnd W K r h = grown W K plain (LineEnd ∷ r) r h λ _ _ x. blank_line x
line_ok (Number n) W K r h = tt
line_ok (Variable v) W K r h = tt
line_ok (Operator o) W K r h = tt
line_ok (Open b) W K r h = tt
line_ok (Close b) W K r h = tt
line_ok Comma W K r h = tt
line_ok Equals W K r h = tt

naming_ok : (m : Mark) (W : List Mark) (K : Base) (r : List Mark) → BaseOk W K plain (Let ∷ m ∷ r) → Moves W (at_naming m K) r
naming_ok Let W K r h = tt
naming_ok Put W K r h = tt
naming_ok Repeat W K r h = tt
naming_ok End W K r h = tt
naming_ok LineEnd W K r h = tt
naming_ok (Number n) W K r h = tt
naming_ok (Variable v) W K r h = h
naming_ok (Operator o) W K r h = tt
naming_ok (Open b) W K r h = tt
naming_ok (Close b) W K r h = tt
naming_ok Comma W K r h = tt
naming_ok Equals W K r h = tt

named_ok : (m : Mark) (W : List Mark) (v : Letter) (K : Base) (r : List Mark) → BaseOk W K plain (Let ∷ Variable v ∷ m ∷ r) → Moves W (at_named m v K) r
named_ok Let W x K r h = tt
named_ok Put W x K r h = tt
named_ok Repeat W x K r h = tt
named_ok End W x K r h = tt
named_ok LineEnd W x K r h = tt
named_ok (Number n) W x K r h = tt
named_ok (Variable v) W x K r h = tt
named_ok (Operator o) W x K r h = tt
named_ok (Open b) W x K r h = tt
named_ok (Close b) W x K r h = tt
named_ok Comma W x K r h = tt
named_ok Equals W x K r h = begun W (of_let x.number K) r λ n t d. grown W K (assign x.number t) (Let ∷ Variable x ∷ Equals ∷ r) n h λ _ _ y. let_line d y

over_ok : (m : Mark) (W : List Mark) (K : Base) (r : List Mark) → ((n : List Mark) → m ∷ r ≡ LineEnd ∷ n → BaseOk W K plain n) → Moves W (at-over m K) r
over_ok Let W K r h = tt
over_ok Put W K r h = tt
over_ok Repeat W K r h = tt
over_ok End W K r h = tt
over_ok LineEnd W K r h = h r refl
over_ok (Number n) W K r h = tt
over_ok (Variable v) W K r h = tt
over_ok (Operator o) W K r h = tt
over_ok (Open b) W K r h = tt
over_ok (Close b) W K r h = tt
over_ok Comma W K r h = tt
over_ok Equals W K r h = tt

step_ok : (W : List Mark) (s : State) (m : Mark) (r : List Mark) → Ok W s (m ∷ r) → Moves W (step s m) r
step_ok W (line K) m r h = line_ok m W K r h
step_ok W (naming K) m r h = naming_ok m W K r h
step_ok W (named v K) m r h = named_ok m W v K r h
step_ok W (over K) m r h = over_ok m W K r h
step_ok W (want l S M k) m r h = want_ok m W l S M k r h
step_ok W (have l S t k) m r h = have_ok m W l S t k r h
step_ok W (full t k) m r h = full_ok m W t k r h.m₀ h.around h.expr

pub run_ok : (W ms : List Mark) (s : State) → Ok W s ms → Moves W (run ms s) []
run_ok W [] s h = h
run_ok W (m ∷ ms) s h = then_ok (step s m) (step_ok W s m ms h) (run_ok W ms)
  where
    then_ok : (v : Move) → Moves W v ms → ((s : State) → Ok W s ms → Moves W (run ms s) []) → Moves W (then v (run ms)) []
    then_ok stuck x f = tt
    then_ok (to s) x f = f s x

pub plan_derived : (ms : List Mark) (f : Plan → Plan) → run (ms ++ (LineEnd ∷ [])) start ≡ to (line (top f)) → IsPlan ms (f done)
plan_derived ms f e =
    let W : List Mark = ms ++ (LineEnd ∷ []) in
    let h : Moves W (run W start) [] = run_ok W W start (λ _ _ x. x) in
    let g : Moves W (to (line (top f))) [] = subst (λ v. Moves W v []) e h in
    record { lines = g [] done no_line }
