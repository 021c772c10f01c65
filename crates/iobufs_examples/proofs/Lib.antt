mod Again
mod InOrderLaws
mod WebLaws
