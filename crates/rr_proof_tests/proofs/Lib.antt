mod TestLaws
